-- Arguments and the messages with them, as they are read.
use Rattle.std.proofs.Common.{subst, ◌≡◌, ◌≢◌, ℕ, ◌+◌, ◌<◌, ◌≤◌, List, [], ◌∷◌, ◌++◌, Bool, true, length, refl, ap, sym, ◌∙◌, append_assoc, append-nil, arith, inl, inr, lit≤}
use Rattle.s80_lex.specs.declared.token.Token.{Token}
use Rattle.s80_lex.specs.declared.token.TokenKind.{TokenKind}
use Rattle.s80_lex.specs.declared.token.TokenKind.TheVariants as kind
use Rattle.s80_tree.specs.Tree.{ExprTree, PrimaryTree, ExprTrees, MessageTrees, MessageTree, expr, no_exprs, exprs, no_messages, exprs_append}
use Rattle.s80_syntax.specs.Lexeme.{Lexeme, Lexemes, lexeme, lexemes}
use Rattle.s80_syntax.specs.Grammar.{Takes, IsPrimary, IsOperand, IsMessage, AreParts}
use Rattle.s80_syntax.specs.Stack.{Stack, Pops, run, keyword_takes, primary, unary_tail, binary_tail, keyword_tail}
use Rattle.s80_syntax.proofs.Moves.{pushes}
use Rattle.s80_syntax.specs.declared.fault.ParseFault.{ParseFault}
use Rattle.s80_syntax.specs.Reads.{AreSlices, IsNotNext, Stands, FailsAs, Parsed, bytes_of}
use Rattle.s80_syntax.specs.Literal.{KeywordNext}
use Rattle.s80_syntax.specs.Expr.{TookUnaries, AreBinary, IsBinaryRest, IsKeywordMessage}
use Rattle.s80_syntax.proofs.NextToken.{takes_next}
use Rattle.s80_syntax.proofs.Steps.{at_list, fails_back, first_fails, passed}
use Rattle.s80_syntax.proofs.Chains.{chain_ends}

-- the argument of a binary message
pub receiver_fails : (text : List ℕ) (e : ParseFault) (depth : ℕ) (names : List ℕ → Bool) (ts : List Token) → FailsAs text depth names (primary ∷ []) (lexemes text ts) e → FailsAs text depth names (primary ∷ unary_tail ∷ []) (lexemes text ts) e
receiver_fails text e depth names ts f = first_fails text e depth names primary (unary_tail ∷ []) ts (λ k g. g) f

pub binary_rest : (text : List ℕ) (depth : ℕ) (names : List ℕ → Bool) (p : PrimaryTree) (ms : MessageTrees) (v : ExprTree) (es : ExprTrees) (s b : List ℕ) (m : MessageTree) (ts rest after : List Token) → Parsed text depth names (primary ∷ []) (IsPrimary p) ts rest → TookUnaries text ms rest after → v ≡ expr [] p ms no_messages → es ≡ exprs v no_exprs → s ≡ b → m ≡ (s, es) → Parsed text depth names (primary ∷ unary_tail ∷ []) (IsBinaryRest b m) ts after
binary_rest text depth names p ms v es s b m ts rest after x u e h i j = record {
  read = (
    v,
    j ∙ ap (λ y. (y, es)) i ∙ ap (λ y. (b, y)) h,
    subst (λ y. IsOperand y 0 (lexemes text ts) (lexemes text after)) (sym e) (lexemes text rest, refl, tt, x.read, chain_ends ms 0 0 (lexemes text rest) (lexemes text after) (u.read 0)),
  );
  same = λ k g. x.same (unary_tail ∷ k) g ∙ u.same k;
  slices = u.slices;
  shorter = (let q = x.shorter in let r = u.shorter in omega arith);
}

-- the argument of a keyword
pub argument_receiver_fails : (text : List ℕ) (e : ParseFault) (depth : ℕ) (names : List ℕ → Bool) (ts : List Token) → FailsAs text depth names (primary ∷ []) (lexemes text ts) e → FailsAs text depth names (primary ∷ unary_tail ∷ binary_tail ∷ []) (lexemes text ts) e
argument_receiver_fails text e depth names ts f = first_fails text e depth names primary (unary_tail ∷ binary_tail ∷ []) ts (λ k g. g) f

pub argument_messages_fail : (text : List ℕ) (e : ParseFault) (depth : ℕ) (names : List ℕ → Bool) (R : Lexemes → Lexemes → Type 0) (ts rest : List Token) → Parsed text depth names (primary ∷ []) R ts rest → FailsAs text depth names (unary_tail ∷ binary_tail ∷ []) (lexemes text rest) e → FailsAs text depth names (primary ∷ unary_tail ∷ binary_tail ∷ []) (lexemes text ts) e
argument_messages_fail text e depth names R ts rest x f =
    fails_back text e depth depth names names (primary ∷ unary_tail ∷ binary_tail ∷ []) (unary_tail ∷ binary_tail ∷ []) (lexemes text ts) (lexemes text rest) (λ k. k) (λ k g. (g, x.same (unary_tail ∷ binary_tail ∷ k) g)) f

pub argument_done : (text : List ℕ) (depth : ℕ) (names : List ℕ → Bool) (p : PrimaryTree) (ms : MessageTrees) (v : ExprTree) (ts rest after : List Token) → Parsed text depth names (primary ∷ []) (IsPrimary p) ts rest → Parsed text depth names (unary_tail ∷ binary_tail ∷ []) (AreBinary ms) rest after → v ≡ expr [] p ms no_messages → Parsed text depth names (primary ∷ unary_tail ∷ binary_tail ∷ []) (IsOperand v 1) ts after
argument_done text depth names p ms v ts rest after x u e = record {
  read = subst (λ y. IsOperand y 1 (lexemes text ts) (lexemes text after)) (sym e) (lexemes text rest, refl, tt, x.read, chain_ends ms 1 1 (lexemes text rest) (lexemes text after) (u.read 1 (lit≤ tt)));
  same = λ k g. x.same (unary_tail ∷ binary_tail ∷ k) g ∙ u.same k g;
  slices = u.slices;
  shorter = (let q = x.shorter in let r = u.shorter in omega arith);
}

-- keywords, each with its argument
not_keyword : (k : TokenKind) → k ≢ kind.Keyword → keyword_takes k (primary ∷ unary_tail ∷ binary_tail ∷ keyword_tail ∷ []) Pops ≡ Pops
not_keyword kind.Keyword n = absurd (n refl)
not_keyword _ n = refl

pub no_keyword : (text : List ℕ) (ts : List Token) (k : Stack) → IsNotNext kind.Keyword ts → run true (lexemes text ts) (keyword_tail ∷ k) ≡ run true (lexemes text ts) k
no_keyword text ts k h = passed text keyword_tail kind.Keyword ts k refl (λ l n. not_keyword l.kind n) h

parts_more : (es : ExprTrees) (s : List ℕ) (l : Lexeme) (f : ExprTree) (ts a b rest : Lexemes) → AreParts es s ts a → Takes kind.Keyword l a b → IsOperand f 1 b rest → AreParts (exprs_append es (exprs f no_exprs)) (s ++ l.bytes) ts rest
parts_more no_exprs s l f ts a b rest h t o = (l, b, rest, [], (h.0 ∙ t.0, t.1), ap (λ x. x ++ l.bytes) h.1 ∙ sym (append-nil l.bytes), o, (refl, refl))
parts_more (exprs g es) s l f ts a b rest h t o = (h.0, h.1, h.2, h.3 ++ l.bytes, h.4, ap (λ x. x ++ l.bytes) h.5 ∙ append_assoc h.0.bytes h.3 l.bytes, h.6, parts_more es h.3 l f h.2 a b rest h.7 t o)

pub no_parts : (es : ExprTrees) (s : List ℕ) (ts : Lexemes) → es ≡ no_exprs → s ≡ [] → AreParts es s ts ts
no_parts es s ts e f = subst (λ x. AreParts x s ts ts) (sym e) (refl, f)

pub part_read : (text : List ℕ) (depth : ℕ) (names : List ℕ → Bool) (es fs : ExprTrees) (s r : List ℕ) (f : ExprTree) (ts : Lexemes) (a tail rest : List Token) (t : Token) → AreParts es s ts (lexemes text a) → a ≡ t ∷ tail → t.kind ≡ kind.Keyword → Parsed text depth names (primary ∷ unary_tail ∷ binary_tail ∷ []) (IsOperand f 1) tail rest → r ≡ s ++ bytes_of text t → fs ≡ exprs_append es (exprs f no_exprs) → AreParts fs r ts (lexemes text rest)
part_read text depth names es fs s r f ts a tail rest t h e n x i j =
    subst (λ y. AreParts fs y ts (lexemes text rest)) (sym i)
    (subst (λ y. AreParts y (s ++ bytes_of text t) ts (lexemes text rest)) (sym j) (parts_more es s (lexeme text t tail) f ts (lexemes text a) (lexemes text tail) (lexemes text rest) h (takes_next text a tail t kind.Keyword e n) x.read))

keyword_opens : (text : List ℕ) (a tail : List Token) (t : Token) → a ≡ t ∷ tail → t.kind ≡ kind.Keyword → (k : Stack) → run true (lexemes text a) (keyword_tail ∷ k) ≡ run true (lexemes text tail) (primary ∷ unary_tail ∷ binary_tail ∷ keyword_tail ∷ k)
keyword_opens text a tail t e n k = at_list text a (t ∷ tail) (keyword_tail ∷ k) e ∙ pushes true (lexeme text t tail) (lexemes text tail) keyword_tail k (primary ∷ unary_tail ∷ binary_tail ∷ keyword_tail ∷ []) (ap (λ x. keyword_takes x (primary ∷ unary_tail ∷ binary_tail ∷ keyword_tail ∷ []) Pops) n)

pub part_taken : (text : List ℕ) (depth : ℕ) (names : List ℕ → Bool) (R : Lexemes → Lexemes → Type 0) (a tail rest : List Token) (t : Token) → a ≡ t ∷ tail → t.kind ≡ kind.Keyword → Parsed text depth names (primary ∷ unary_tail ∷ binary_tail ∷ []) R tail rest → (k : Stack) → Stands depth names k → run true (lexemes text a) (keyword_tail ∷ k) ≡ run true (lexemes text rest) (keyword_tail ∷ k)
part_taken text depth names R a tail rest t e n x k g = keyword_opens text a tail t e n k ∙ x.same (keyword_tail ∷ k) g

pub part_fails : (text : List ℕ) (d : ParseFault) (depth : ℕ) (names : List ℕ → Bool) (ts a tail : List Token) (t : Token) → ((k : Stack) → Stands depth names k → run true (lexemes text ts) (keyword_tail ∷ k) ≡ run true (lexemes text a) (keyword_tail ∷ k)) → a ≡ t ∷ tail → t.kind ≡ kind.Keyword → FailsAs text depth names (primary ∷ unary_tail ∷ binary_tail ∷ []) (lexemes text tail) d → FailsAs text depth names (keyword_tail ∷ []) (lexemes text ts) d
part_fails text d depth names ts a tail t s e n f =
    fails_back text d depth depth names names (keyword_tail ∷ []) (primary ∷ unary_tail ∷ binary_tail ∷ []) (lexemes text ts) (lexemes text tail) (λ k. keyword_tail ∷ k) (λ k g. (g, s k g ∙ keyword_opens text a tail t e n k)) f

-- a keyword comes first, and none behind the last argument
first_kind : (l m : Lexeme) (ts us : Lexemes) → l ∷ ts ≡ m ∷ us → l.kind ≡ m.kind
first_kind l m ts us e = cc

pub some_keyword : (text : List ℕ) (ts rest : List Token) → KeywordNext ts → IsNotNext kind.Keyword rest → lexemes text ts ≡ lexemes text rest → ⊥
some_keyword text [] rest k n e = k
some_keyword text (t ∷ ts) [] k n e = cc
some_keyword text (t ∷ ts) (u ∷ us) k n e = n (sym (first_kind (lexeme text t ts) (lexeme text u us) (lexemes text ts) (lexemes text us) e) ∙ k)

parts_message : (text : List ℕ) (es : ExprTrees) (s : List ℕ) (ts rest : List Token) → KeywordNext ts → IsNotNext kind.Keyword rest → AreParts es s (lexemes text ts) (lexemes text rest) → IsMessage es s 2 2 3 (lexemes text ts) (lexemes text rest)
parts_message text no_exprs s ts rest k n h = absurd (some_keyword text ts rest k n h.0)
parts_message text (exprs e es) s ts rest k n h = inr (h.0, h.1, h.2, h.3, h.4, h.5, lit≤ tt, lit≤ tt, refl, h.6, h.7)

pub parts_done : (text : List ℕ) (depth : ℕ) (names : List ℕ → Bool) (es : ExprTrees) (s : List ℕ) (m : MessageTree) (ts rest : List Token) → AreParts es s (lexemes text ts) (lexemes text rest) → ((k : Stack) → Stands depth names k → run true (lexemes text ts) (keyword_tail ∷ k) ≡ run true (lexemes text rest) (keyword_tail ∷ k)) → KeywordNext ts → IsNotNext kind.Keyword rest → m ≡ (s, es) → AreSlices text rest → length rest ≤ length ts → Parsed text depth names (keyword_tail ∷ []) (IsKeywordMessage m) ts rest
parts_done text depth names es s m ts rest h g k n e w q = record {
  read = subst (λ y. IsKeywordMessage y (lexemes text ts) (lexemes text rest)) (sym e) (parts_message text es s ts rest k n h);
  same = λ x f. g x f ∙ no_keyword text rest x n;
  slices = w;
  shorter = q;
}
