-- Expressions, as they are read.
use Rattle.std.proofs.Common.{subst, ◌≡◌, ◌≢◌, ℕ, ◌+◌, ◌≤◌, List, [], ◌∷◌, ◌++◌, Bool, true, false, length, refl, ap, sym, ◌∙◌, arith}
use Rattle.s80_lex.specs.declared.token.Token.{Token}
use Rattle.s80_lex.specs.declared.token.TokenKind.{TokenKind}
use Rattle.s80_lex.specs.declared.token.TokenKind.TheVariants as kind
use Rattle.s80_tree.specs.declared.name.NameAt.{NameAt}
use Rattle.s80_tree.specs.Tree.{ExprTree, PrimaryTree, MessageTrees, expr, no_messages, messages}
use Rattle.s80_syntax.specs.Lexeme.{Lexeme, Lexemes, lexeme, lexemes}
use Rattle.s80_syntax.specs.Grammar.{IsCascadeOf, IsPrimary, IsExpr, IsChain, IsCascade}
use Rattle.s80_syntax.specs.Word.{is_minus}
use Rattle.s80_syntax.specs.Stack.{Stack, Pops, Refuses, run, above, tails, primary_takes, expr_takes, message_takes, assign_takes, primary, expr_start, after_name, first_message, unary_tail, binary_tail, keyword_tail, cascade}
use Rattle.s80_syntax.proofs.Moves.{pushes, pops, ends, same_takes, stands_above, IsTaken}
use Rattle.s80_syntax.proofs.TakenExprs.{unary_token, unary_binary, keyword_token}
use Rattle.s80_syntax.specs.declared.fault.ParseFault.{ParseFault}
use Rattle.s80_syntax.specs.Reads.{Stands, FailsAs, Parsed}
use Rattle.s80_syntax.specs.Names.{IsTargetNext, TookTargets}
use Rattle.s80_syntax.specs.Expr.{IsMessageKind, MessageNext, NoMessage}
use Rattle.s80_syntax.proofs.Steps.{fails_back, ended}

-- where no target comes, an expression is an operand and its first message
operand_above : (k : TokenKind) (b : Bool) (l : Lexeme) → k ≢ kind.Name → expr_takes k b l [] Refuses ≡ above (primary_takes k b [] Refuses) (first_message ∷ [])
operand_above kind.Name b l n = absurd (n refl)
operand_above kind.Binary true l n = refl
operand_above kind.Binary false l n = refl
operand_above _ b l n = refl

operand_taken : (k : TokenKind) (b : Bool) → IsTaken (primary_takes k b [] Refuses)
operand_taken kind.Binary true = tt
operand_taken kind.Binary false = tt
operand_taken _ b = tt

no_assign : (k : TokenKind) (n : Lexeme) → k ≢ kind.Assign → assign_takes k n ≡ message_takes k
no_assign kind.Assign n h = absurd (h refl)
no_assign _ n h = refl

name_is_first : (text : List ℕ) (t : Token) (us : List Token) (n : Lexeme) (k : Stack) → t.kind ≡ kind.Name → (IsTargetNext (t ∷ us) → ⊥) → run true (lexemes text us) (after_name n ∷ k) ≡ run true (lexemes text us) (first_message ∷ k)
name_is_first text t [] n k e h = ends true (after_name n) k refl ∙ sym (ends true first_message k refl)
name_is_first text t (u ∷ us) n k e h = same_takes true (lexeme text u us) (lexemes text us) (after_name n) first_message k (no_assign u.kind n (λ a. h (e, a)))

operand_at : (text : List ℕ) (t : Token) (us : List Token) (k : Stack) (d : TokenKind) → t.kind ≡ d → (IsTargetNext (t ∷ us) → ⊥) → run true (lexemes text (t ∷ us)) (expr_start ∷ k) ≡ run true (lexemes text (t ∷ us)) (primary ∷ first_message ∷ k)
operand_at text t us k kind.Name e h =
    pushes true (lexeme text t us) (lexemes text us) expr_start k (after_name (lexeme text t us) ∷ []) (ap (λ x. expr_takes x (is_minus (lexeme text t us)) (lexeme text t us) [] Refuses) e)
    ∙ name_is_first text t us (lexeme text t us) k e h
    ∙ sym (pushes true (lexeme text t us) (lexemes text us) primary (first_message ∷ k) [] (ap (λ x. primary_takes x (is_minus (lexeme text t us)) [] Refuses) e))
operand_at text t us k _ e h =
    stands_above true (lexeme text t us) (lexemes text us) expr_start primary (first_message ∷ []) k (operand_above t.kind (is_minus (lexeme text t us)) (lexeme text t us) (λ n. cc)) (operand_taken t.kind (is_minus (lexeme text t us))) refl

expr_is_primary : (text : List ℕ) (ts : List Token) (k : Stack) → (IsTargetNext ts → ⊥) → run true (lexemes text ts) (expr_start ∷ k) ≡ run true (lexemes text ts) (primary ∷ first_message ∷ k)
expr_is_primary text [] k h = ended expr_start k refl ∙ sym (ended primary (first_message ∷ k) refl)
expr_is_primary text (t ∷ us) k h = operand_at text t us k t.kind refl h

pub expr_receiver_fails : (text : List ℕ) (e : ParseFault) (depth : ℕ) (names : List ℕ → Bool) (ns : List NameAt) (ts first : List Token) → TookTargets text names ns ts first → FailsAs text depth names (primary ∷ []) (lexemes text first) e → FailsAs text depth names (expr_start ∷ []) (lexemes text ts) e
expr_receiver_fails text e depth names ns ts first x f =
    fails_back text e depth depth names names (expr_start ∷ []) (primary ∷ []) (lexemes text ts) (lexemes text first) (λ k. first_message ∷ k) (λ k g. (g, x.same k g.1 ∙ expr_is_primary text first k x.none)) f

-- no message
no_message : (d : TokenKind) → (IsMessageKind d → ⊥) → message_takes d ≡ Pops
no_message kind.Name h = absurd (h tt)
no_message kind.Binary h = absurd (h tt)
no_message kind.Keyword h = absurd (h tt)
no_message _ h = refl

no_first : (text : List ℕ) (ts : List Token) (k : Stack) → NoMessage ts → run true (lexemes text ts) (first_message ∷ k) ≡ run true (lexemes text ts) k
no_first text [] k h = ends true first_message k refl
no_first text (t ∷ ts) k h = pops true (lexeme text t ts) (lexemes text ts) first_message k (no_message t.kind h)

pub expr_short : (text : List ℕ) (depth : ℕ) (names : List ℕ → Bool) (ns : List NameAt) (p : PrimaryTree) (m c : MessageTrees) (v : ExprTree) (ts first rest : List Token) → TookTargets text names ns ts first → Parsed text depth names (primary ∷ []) (IsPrimary p) first rest → NoMessage rest → v ≡ expr ns p m c → m ≡ no_messages → c ≡ no_messages → Parsed text depth names (expr_start ∷ []) (IsExpr v) ts rest
expr_short text depth names ns p m c v ts first rest x y n e i j = record {
  read = subst (λ z. IsExpr z (lexemes text ts) (lexemes text rest)) (sym (e ∙ ap (λ z. expr ns p z c) i ∙ ap (expr ns p no_messages) j)) (lexemes text first, lexemes text rest, lexemes text rest, x.read, y.read, refl, tt, refl);
  same = λ k g. x.same k g.1 ∙ expr_is_primary text first k x.none ∙ y.same (first_message ∷ k) g ∙ no_first text rest k n;
  slices = y.slices;
  shorter = (let a = x.shorter in let b = y.shorter in omega arith);
}

-- a first message
first_at : (text : List ℕ) (t : Token) (ts : List Token) (k : Stack) (d : TokenKind) → t.kind ≡ d → IsMessageKind d → run true (lexemes text (t ∷ ts)) (first_message ∷ k) ≡ run true (lexemes text (t ∷ ts)) (unary_tail ∷ binary_tail ∷ keyword_tail ∷ cascade ∷ k)
first_at text t ts k kind.Name e h =
    pushes true (lexeme text t ts) (lexemes text ts) first_message k tails (ap message_takes e)
    ∙ sym (unary_token true (lexeme text t ts) (lexemes text ts) (binary_tail ∷ keyword_tail ∷ cascade ∷ k) e)
first_at text t ts k kind.Binary e h =
    pushes true (lexeme text t ts) (lexemes text ts) first_message k (primary ∷ tails) (ap message_takes e)
    ∙ sym (unary_binary true (lexeme text t ts) (lexemes text ts) (keyword_tail ∷ cascade ∷ k) e)
first_at text t ts k kind.Keyword e h =
    pushes true (lexeme text t ts) (lexemes text ts) first_message k (primary ∷ tails) (ap message_takes e)
    ∙ sym (keyword_token true (lexeme text t ts) (lexemes text ts) (cascade ∷ k) e)
first_at text t ts k _ e h = absurd h

first_tails : (text : List ℕ) (ts : List Token) (k : Stack) → MessageNext ts → run true (lexemes text ts) (first_message ∷ k) ≡ run true (lexemes text ts) (unary_tail ∷ binary_tail ∷ keyword_tail ∷ cascade ∷ k)
first_tails text [] k h = absurd h
first_tails text (t ∷ ts) k h = first_at text t ts k t.kind refl h

expr_to_chain : (text : List ℕ) (depth : ℕ) (names : List ℕ → Bool) (ns : List NameAt) (p : PrimaryTree) (ts first rest : List Token) → TookTargets text names ns ts first → Parsed text depth names (primary ∷ []) (IsPrimary p) first rest → MessageNext rest → (k : Stack) → Stands depth names k → run true (lexemes text ts) (expr_start ∷ k) ≡ run true (lexemes text rest) (unary_tail ∷ binary_tail ∷ keyword_tail ∷ cascade ∷ k)
expr_to_chain text depth names ns p ts first rest x y n k g = x.same k g.1 ∙ expr_is_primary text first k x.none ∙ y.same (first_message ∷ k) g ∙ first_tails text rest k n

pub expr_chain_fails : (text : List ℕ) (e : ParseFault) (depth : ℕ) (names : List ℕ → Bool) (ns : List NameAt) (p : PrimaryTree) (ts first rest : List Token) → TookTargets text names ns ts first → Parsed text depth names (primary ∷ []) (IsPrimary p) first rest → MessageNext rest → FailsAs text depth names (unary_tail ∷ binary_tail ∷ keyword_tail ∷ []) (lexemes text rest) e → FailsAs text depth names (expr_start ∷ []) (lexemes text ts) e
expr_chain_fails text e depth names ns p ts first rest x y n f =
    fails_back text e depth depth names names (expr_start ∷ []) (unary_tail ∷ binary_tail ∷ keyword_tail ∷ []) (lexemes text ts) (lexemes text rest) (λ k. cascade ∷ k) (λ k g. (g, expr_to_chain text depth names ns p ts first rest x y n k g)) f

pub expr_cascade_fails : (text : List ℕ) (e : ParseFault) (depth : ℕ) (names : List ℕ → Bool) (ns : List NameAt) (p : PrimaryTree) (R : Lexemes → Lexemes → Type 0) (ts first rest end : List Token) → TookTargets text names ns ts first → Parsed text depth names (primary ∷ []) (IsPrimary p) first rest → MessageNext rest → Parsed text depth names (unary_tail ∷ binary_tail ∷ keyword_tail ∷ []) R rest end → FailsAs text depth names (cascade ∷ []) (lexemes text end) e → FailsAs text depth names (expr_start ∷ []) (lexemes text ts) e
expr_cascade_fails text e depth names ns p R ts first rest end x y n z f =
    fails_back text e depth depth names names (expr_start ∷ []) (cascade ∷ []) (lexemes text ts) (lexemes text end) (λ k. k) (λ k g. (g, expr_to_chain text depth names ns p ts first rest x y n k g ∙ z.same (cascade ∷ k) g)) f

heads : (l m : Lexeme) (xs ys : Lexemes) → l ∷ xs ≡ m ∷ ys → l ≡ m
heads l m xs ys e = cc

message_is : (text : List ℕ) (t : Token) (ts : List Token) (m c : MessageTrees) (end rest : Lexemes) → IsMessageKind t.kind → IsChain m 0 2 (lexemes text (t ∷ ts)) end → IsCascade c end rest → IsCascadeOf m c
message_is text t ts m no_messages end rest n h g = tt
message_is text t ts (messages x fs m) (messages s es c) end rest n h g = λ o. o
message_is text t ts no_messages (messages s es c) end rest n h g = λ o.
    let e : lexemes text (t ∷ ts) ≡ g.3.0 ∷ g.0 = h ∙ g.3.1.0 in
    let k : t.kind ≡ kind.Semicolon = ap (λ l. l.kind) (heads (lexeme text t ts) g.3.0 (lexemes text ts) g.0 e) ∙ g.3.1.1 in
    subst IsMessageKind k n

cascade_of : (text : List ℕ) (ts : List Token) (m c : MessageTrees) (end rest : Lexemes) → MessageNext ts → IsChain m 0 2 (lexemes text ts) end → IsCascade c end rest → IsCascadeOf m c
cascade_of text [] m c end rest n h g = absurd n
cascade_of text (t ∷ ts) m c end rest n h g = message_is text t ts m c end rest n h g

pub expr_done : (text : List ℕ) (depth : ℕ) (names : List ℕ → Bool) (ns : List NameAt) (p : PrimaryTree) (m c : MessageTrees) (v : ExprTree) (ts first rest end after : List Token) → TookTargets text names ns ts first → Parsed text depth names (primary ∷ []) (IsPrimary p) first rest → MessageNext rest → Parsed text depth names (unary_tail ∷ binary_tail ∷ keyword_tail ∷ []) (IsChain m 0 2) rest end → Parsed text depth names (cascade ∷ []) (IsCascade c) end after → v ≡ expr ns p m c → Parsed text depth names (expr_start ∷ []) (IsExpr v) ts after
expr_done text depth names ns p m c v ts first rest end after x y n z w e = record {
  read = subst (λ q. IsExpr q (lexemes text ts) (lexemes text after)) (sym e) (lexemes text first, lexemes text rest, lexemes text end, x.read, y.read, z.read, cascade_of text rest m c (lexemes text end) (lexemes text after) n z.read w.read, w.read);
  same = λ k g. expr_to_chain text depth names ns p ts first rest x y n k g ∙ z.same (cascade ∷ k) g ∙ w.same k g;
  slices = w.slices;
  shorter = (let a = x.shorter in let b = y.shorter in let d = z.shorter in let f = w.shorter in omega arith);
}
