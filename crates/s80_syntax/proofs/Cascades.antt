-- An expression's messages and those behind semicolons, as they are read.
use Rattle.std.proofs.Common.{subst, ◌≡◌, ◌≢◌, ℕ, ◌+◌, ◌≤◌, List, [], ◌∷◌, ◌++◌, Bool, true, length, refl, ap, sym, ◌∙◌, arith, inl, inr, lit≤, Result}
use Rattle.std.specs.Borrow.{Bor}
use Rattle.s80_lex.specs.declared.token.Token.{Token}
use Rattle.s80_lex.specs.declared.token.TokenKind.{TokenKind}
use Rattle.s80_lex.specs.declared.token.TokenKind.TheVariants as kind
use Rattle.s80_tree.specs.declared.expr.Message.{Message}
use Rattle.s80_tree.specs.Tree.{ExprTrees, MessageTrees, MessageTree, no_exprs, exprs, no_messages, messages, messages_append, message_of}
use Rattle.s80_syntax.specs.Lexeme.{Lexeme, Lexemes, lexeme, lexemes}
use Rattle.s80_syntax.specs.Grammar.{Takes, IsMark, IsChain, IsMessage, IsCascade}
use Rattle.s80_syntax.specs.Faults.{Unexpected}
use Rattle.s80_syntax.specs.Stack.{Stack, Pops, Refuses, run, cascade_takes, keyword_takes, semicolon_takes, primary, unary_tail, binary_tail, keyword_tail, cascade, message}
use Rattle.s80_syntax.proofs.Moves.{pushes, same_takes}
use Rattle.s80_syntax.specs.declared.fault.ParseFault.{ParseFault}
use Rattle.s80_syntax.specs.Reads.{AreSlices, IsNotNext, Stands, Stops, FailsAs, Parsed, Parses, place_in, bytes_of}
use Rattle.s80_syntax.specs.Literal.{KeywordNext}
use Rattle.s80_syntax.specs.Expr.{IsMessageKind, AreBinary, IsBinaryRest, IsKeywordMessage, IsAnyMessage}
use Rattle.s80_syntax.proofs.NextToken.{takes_next, tail_slices}
use Rattle.s80_syntax.proofs.Steps.{at_list, fails_back, passes_on, passed, stops_refused, stops_end}
use Rattle.s80_syntax.proofs.Chains.{goes_on, chain_ends, messages_all, messages_assoc}
use Rattle.s80_syntax.proofs.Arguments.{no_keyword}

-- messages up to a cascade
pub chain_fails : (text : List ℕ) (e : ParseFault) (depth : ℕ) (names : List ℕ → Bool) (ts : List Token) → FailsAs text depth names (unary_tail ∷ binary_tail ∷ []) (lexemes text ts) e → FailsAs text depth names (unary_tail ∷ binary_tail ∷ keyword_tail ∷ []) (lexemes text ts) e
chain_fails text e depth names ts f =
    fails_back text e depth depth names names (unary_tail ∷ binary_tail ∷ keyword_tail ∷ []) (unary_tail ∷ binary_tail ∷ []) (lexemes text ts) (lexemes text ts) (λ k. keyword_tail ∷ k) (λ k g. (g, refl)) f

pub chain_keyword_fails : (text : List ℕ) (e : ParseFault) (depth : ℕ) (names : List ℕ → Bool) (R : Lexemes → Lexemes → Type 0) (ts rest : List Token) → Parsed text depth names (unary_tail ∷ binary_tail ∷ []) R ts rest → FailsAs text depth names (keyword_tail ∷ []) (lexemes text rest) e → FailsAs text depth names (unary_tail ∷ binary_tail ∷ keyword_tail ∷ []) (lexemes text ts) e
chain_keyword_fails text e depth names R ts rest x f =
    fails_back text e depth depth names names (unary_tail ∷ binary_tail ∷ keyword_tail ∷ []) (keyword_tail ∷ []) (lexemes text ts) (lexemes text rest) (λ k. k) (λ k g. (g, x.same (keyword_tail ∷ k) g)) f

pub chain_short : (text : List ℕ) (depth : ℕ) (names : List ℕ → Bool) (m : MessageTrees) (ts rest : List Token) → Parsed text depth names (unary_tail ∷ binary_tail ∷ []) (AreBinary m) ts rest → IsNotNext kind.Keyword rest → Parsed text depth names (unary_tail ∷ binary_tail ∷ keyword_tail ∷ []) (IsChain m 0 2) ts rest
chain_short text depth names m ts rest x n = record {
  read = chain_ends m 1 2 (lexemes text ts) (lexemes text rest) (x.read 2 (lit≤ tt));
  same = λ k g. x.same (keyword_tail ∷ k) g ∙ no_keyword text rest k n;
  slices = x.slices;
  shorter = x.shorter;
}

keyword_low : (es : ExprTrees) (s : List ℕ) (low : ℕ) (ts rest : Lexemes) → low ≤ 2 → IsMessage es s 2 2 3 ts rest → IsMessage es s low 2 3 ts rest
keyword_low no_exprs s low ts rest q h = absurd (omega (arith, h.3))
keyword_low (exprs e es) s low ts rest q (inl h) = absurd (omega (arith, h.6))
keyword_low (exprs e es) s low ts rest q (inr h) = inr (h.0, h.1, h.2, h.3, h.4, h.5, q, h.7, h.8, h.9, h.10)

pub chain_done : (text : List ℕ) (depth : ℕ) (names : List ℕ → Bool) (m new : MessageTrees) (w : MessageTree) (ts rest after : List Token) → Parsed text depth names (unary_tail ∷ binary_tail ∷ []) (AreBinary m) ts rest → Parsed text depth names (keyword_tail ∷ []) (IsKeywordMessage w) rest after → new ≡ messages_append m (messages w.0 w.1 no_messages) → Parsed text depth names (unary_tail ∷ binary_tail ∷ keyword_tail ∷ []) (IsChain new 0 2) ts after
chain_done text depth names m new w ts rest after x y e = record {
  read = chain_ends new 3 2 (lexemes text ts) (lexemes text after)
      (goes_on m new w.0 w.1 1 3 2 (lexemes text ts) (lexemes text rest) (lexemes text after) (x.read 2 (lit≤ tt)) (keyword_low w.1 w.0 1 (lexemes text rest) (lexemes text after) (lit≤ tt) y.read) e);
  same = λ k g. x.same (keyword_tail ∷ k) g ∙ y.same k g;
  slices = y.slices;
  shorter = (let a = x.shorter in let b = y.shorter in omega arith);
}

pub keyword_here : (a tail : List Token) (t : Token) → a ≡ t ∷ tail → t.kind ≡ kind.Keyword → KeywordNext a
keyword_here a tail t e n = subst KeywordNext (sym e) n

-- a message behind a semicolon
pub message_end : (text : List ℕ) (depth : ℕ) (names : List ℕ → Bool) (ts : List Token) (p : ℕ) → ts ≡ [] → p ≡ place_in text ts → Stops text depth names (message ∷ []) (lexemes text ts) Unexpected p
message_end text depth names ts p e q = stops_end text depth names message [] ts p e refl q

pub message_unary : (text : List ℕ) (depth : ℕ) (names : List ℕ → Bool) (m : MessageTree) (s : List ℕ) (es : ExprTrees) (ts tail : List Token) (t : Token) → AreSlices text ts → ts ≡ t ∷ tail → t.kind ≡ kind.Name → m ≡ (s, es) → s ≡ bytes_of text t → es ≡ no_exprs → Parsed text depth names (message ∷ []) (IsAnyMessage m) ts tail
message_unary text depth names m s es ts tail t w e n h i j = record {
  read = subst (λ y. IsAnyMessage y (lexemes text ts) (lexemes text tail)) (sym (h ∙ ap (λ y. (y, es)) i ∙ ap (λ y. (bytes_of text t, y)) j)) (0, (lexeme text t tail, takes_next text ts tail t kind.Name e n, refl, refl, refl));
  same = λ k g. at_list text ts (t ∷ tail) (message ∷ k) e ∙ pushes true (lexeme text t tail) (lexemes text tail) message k [] (ap cascade_takes n);
  slices = tail_slices text ts tail t e w;
  shorter = omega (arith, ap length e);
}

binary_any : (b : List ℕ) (m : MessageTree) (l : Lexeme) (ts tail end : Lexemes) → Takes kind.Binary l ts tail → b ≡ l.bytes → IsBinaryRest b m tail end → IsAnyMessage m ts end
binary_any b m l ts tail end h e g = subst (λ y. IsAnyMessage y ts end) (sym g.1) (1, inl (l, tail, h, e, lit≤ tt, lit≤ tt, refl, g.2, tt))

pub message_binary : (text : List ℕ) (depth : ℕ) (names : List ℕ → Bool) (ts tail : List Token) (t : Token) (r : Result (Message × Bor (List Token)) ParseFault) → ts ≡ t ∷ tail → t.kind ≡ kind.Binary → Parses text depth names (primary ∷ unary_tail ∷ []) (λ x. IsBinaryRest (bytes_of text t) (message_of x)) tail r → Parses text depth names (message ∷ []) (λ x. IsAnyMessage (message_of x)) ts r
message_binary text depth names ts tail t r e n x =
    passes_on text depth names names (message ∷ []) (primary ∷ unary_tail ∷ []) (λ k. k) (λ y. IsBinaryRest (bytes_of text t) (message_of y)) (λ y. IsAnyMessage (message_of y)) ts tail r
    (λ k g. (g, at_list text ts (t ∷ tail) (message ∷ k) e ∙ pushes true (lexeme text t tail) (lexemes text tail) message k (primary ∷ unary_tail ∷ []) (ap cascade_takes n)))
    (λ end k. refl) (λ v end h. binary_any (bytes_of text t) (message_of v) (lexeme text t tail) (lexemes text ts) (lexemes text tail) end (takes_next text ts tail t kind.Binary e n) refl h) (omega (arith, ap length e)) x

keyword_any : (m : MessageTree) (ts end : Lexemes) → IsKeywordMessage m ts end → IsAnyMessage m ts end
keyword_any m ts end h = (3, keyword_low m.1 m.0 0 ts end (lit≤ tt) h)

pub message_keyword : (text : List ℕ) (depth : ℕ) (names : List ℕ → Bool) (ts tail : List Token) (t : Token) (r : Result (Message × Bor (List Token)) ParseFault) → ts ≡ t ∷ tail → t.kind ≡ kind.Keyword → Parses text depth names (keyword_tail ∷ []) (λ x. IsKeywordMessage (message_of x)) ts r → Parses text depth names (message ∷ []) (λ x. IsAnyMessage (message_of x)) ts r
message_keyword text depth names ts tail t r e n x =
    passes_on text depth names names (message ∷ []) (keyword_tail ∷ []) (λ k. k) (λ y. IsKeywordMessage (message_of y)) (λ y. IsAnyMessage (message_of y)) ts ts r
    (λ k g. (
      g,
      at_list text ts (t ∷ tail) (message ∷ k) e
          ∙ same_takes true (lexeme text t tail) (lexemes text tail) message keyword_tail k (ap cascade_takes n ∙ sym (ap (λ y. keyword_takes y (primary ∷ unary_tail ∷ binary_tail ∷ keyword_tail ∷ []) Pops) n))
          ∙ sym (at_list text ts (t ∷ tail) (keyword_tail ∷ k) e),
    ))
    (λ end k. refl) (λ v end h. keyword_any (message_of v) (lexemes text ts) end h) (omega arith) x

no_cascade : (d : TokenKind) → d ≢ kind.Name → d ≢ kind.Binary → d ≢ kind.Keyword → cascade_takes d ≡ Refuses
no_cascade kind.Name a b c = absurd (a refl)
no_cascade kind.Binary a b c = absurd (b refl)
no_cascade kind.Keyword a b c = absurd (c refl)
no_cascade _ a b c = refl

pub message_refused : (text : List ℕ) (depth : ℕ) (names : List ℕ → Bool) (ts tail : List Token) (t : Token) (p : ℕ) → ts ≡ t ∷ tail → t.kind ≢ kind.Name → t.kind ≢ kind.Binary → t.kind ≢ kind.Keyword → p ≡ place_in text ts → Stops text depth names (message ∷ []) (lexemes text ts) Unexpected p
message_refused text depth names ts tail t p e a b c q = stops_refused text depth names message [] ts tail t p e (no_cascade t.kind a b c) q

-- messages behind semicolons
not_semicolon : (k : TokenKind) → k ≢ kind.Semicolon → semicolon_takes k ≡ Pops
not_semicolon kind.Semicolon n = absurd (n refl)
not_semicolon _ n = refl

semicolon_opens : (text : List ℕ) (a tail : List Token) (t : Token) → a ≡ t ∷ tail → t.kind ≡ kind.Semicolon → (k : Stack) → run true (lexemes text a) (cascade ∷ k) ≡ run true (lexemes text tail) (message ∷ cascade ∷ k)
semicolon_opens text a tail t e n k = at_list text a (t ∷ tail) (cascade ∷ k) e ∙ pushes true (lexeme text t tail) (lexemes text tail) cascade k (message ∷ cascade ∷ []) (ap semicolon_takes n)

pub cascade_none : (text : List ℕ) (m : MessageTrees) (ts : List Token) → m ≡ no_messages → (more : MessageTrees) (end : Lexemes) → IsCascade more (lexemes text ts) end → IsCascade (messages_append m more) (lexemes text ts) end
cascade_none text m ts e more end h = subst (λ x. IsCascade (messages_append x more) (lexemes text ts) end) (sym e) h

pub cascade_read : (text : List ℕ) (depth : ℕ) (names : List ℕ → Bool) (old new : MessageTrees) (m : MessageTree) (start : Lexemes) (a tail rest : List Token) (t : Token) → ((more : MessageTrees) (end : Lexemes) → IsCascade more (lexemes text a) end → IsCascade (messages_append old more) start end) → a ≡ t ∷ tail → t.kind ≡ kind.Semicolon → Parsed text depth names (message ∷ []) (IsAnyMessage m) tail rest → new ≡ messages_append old (messages m.0 m.1 no_messages) → (more : MessageTrees) (end : Lexemes) → IsCascade more (lexemes text rest) end → IsCascade (messages_append new more) start end
cascade_read text depth names old new m start a tail rest t g e n x p more end h =
    subst (λ y. IsCascade y start end) (sym (ap (λ y. messages_append y more) p ∙ messages_assoc old (messages m.0 m.1 no_messages) more))
    (g (messages m.0 m.1 more) end (lexemes text tail, lexemes text rest, x.read.0, (lexeme text t tail, takes_next text a tail t kind.Semicolon e n), x.read.1, h))

pub cascade_taken : (text : List ℕ) (depth : ℕ) (names : List ℕ → Bool) (R : Lexemes → Lexemes → Type 0) (a tail rest : List Token) (t : Token) → a ≡ t ∷ tail → t.kind ≡ kind.Semicolon → Parsed text depth names (message ∷ []) R tail rest → (k : Stack) → Stands depth names k → run true (lexemes text a) (cascade ∷ k) ≡ run true (lexemes text rest) (cascade ∷ k)
cascade_taken text depth names R a tail rest t e n x k g = semicolon_opens text a tail t e n k ∙ x.same (cascade ∷ k) g

pub cascade_fails : (text : List ℕ) (d : ParseFault) (depth : ℕ) (names : List ℕ → Bool) (ts a tail : List Token) (t : Token) → ((k : Stack) → Stands depth names k → run true (lexemes text ts) (cascade ∷ k) ≡ run true (lexemes text a) (cascade ∷ k)) → a ≡ t ∷ tail → t.kind ≡ kind.Semicolon → FailsAs text depth names (message ∷ []) (lexemes text tail) d → FailsAs text depth names (cascade ∷ []) (lexemes text ts) d
cascade_fails text d depth names ts a tail t s e n f =
    fails_back text d depth depth names names (cascade ∷ []) (message ∷ []) (lexemes text ts) (lexemes text tail) (λ k. cascade ∷ k) (λ k g. (g, s k g ∙ semicolon_opens text a tail t e n k)) f

pub cascades_done : (text : List ℕ) (depth : ℕ) (names : List ℕ → Bool) (m : MessageTrees) (ts rest : List Token) → ((more : MessageTrees) (end : Lexemes) → IsCascade more (lexemes text rest) end → IsCascade (messages_append m more) (lexemes text ts) end) → ((k : Stack) → Stands depth names k → run true (lexemes text ts) (cascade ∷ k) ≡ run true (lexemes text rest) (cascade ∷ k)) → IsNotNext kind.Semicolon rest → AreSlices text rest → length rest ≤ length ts → Parsed text depth names (cascade ∷ []) (IsCascade m) ts rest
cascades_done text depth names m ts rest g s n w q = record {
  read = subst (λ y. IsCascade y (lexemes text ts) (lexemes text rest)) (messages_all m) (g no_messages (lexemes text rest) refl);
  same = λ k f. s k f ∙ passed text cascade kind.Semicolon rest k refl (λ l o. not_semicolon l.kind o) n;
  slices = w;
  shorter = q;
}
