-- Statements and the bodies of blocks, as they are read.
use Rattle.std.proofs.Common.{subst, ◌≡◌, ◌≢◌, ℕ, suc, ◌+◌, ◌<◌, ◌≤◌, List, [], ◌∷◌, ◌++◌, Bool, true, false, length, refl, ap, sym, ◌∙◌, arith, inl, inr}
use Rattle.s80_lex.specs.declared.token.Token.{Token}
use Rattle.s80_lex.specs.declared.token.TokenKind.{TokenKind}
use Rattle.s80_lex.specs.declared.token.TokenKind.TheVariants as kind
use Rattle.s80_tree.specs.Tree.{ExprTree, BodyTree, StmtTree, no_stmts, stmts, body_append}
use Rattle.s80_syntax.specs.Lexeme.{Lexeme, Lexemes, lexeme, lexemes}
use Rattle.s80_syntax.specs.Grammar.{IsMark, IsCaret, IsExpr, IsBetween, IsBody}
use Rattle.s80_syntax.specs.Word.{is_minus}
use Rattle.s80_syntax.specs.Stack.{Stack, Pops, run, body_takes, period_takes, expr_start, body, after_statement, after_return}
use Rattle.s80_syntax.proofs.Moves.{pushes, pops, ends}
use Rattle.s80_syntax.proofs.Begins.{Operand}
use Rattle.s80_syntax.proofs.TakenExprs.{body_is_expr}
use Rattle.s80_syntax.specs.declared.fault.ParseFault.{ParseFault}
use Rattle.s80_syntax.specs.Reads.{AreSlices, IsNotNext, Stands, FailsAs, Parsed}
use Rattle.s80_syntax.specs.Expr.{begins_statement, statement_next, TookCaret, after}
use Rattle.s80_syntax.proofs.NextToken.{takes_next, tail_slices}
use Rattle.s80_syntax.proofs.Steps.{at_list, fails_back, passed}

body_all : (b : BodyTree) → body_append b no_stmts ≡ b
body_all no_stmts = refl
body_all (stmts r e b) = ap (stmts r e) (body_all b)

body_assoc : (a b c : BodyTree) → body_append (body_append a b) c ≡ body_append a (body_append b c)
body_assoc no_stmts b c = refl
body_assoc (stmts r e a) b c = ap (stmts r e) (body_assoc a b c)

-- the first token of a statement
operand_of : (d : TokenKind) (b : Bool) → d ≢ kind.Caret → begins_statement d b ≡ true → Operand d b
operand_of kind.Caret b n e = absurd (n refl)
operand_of kind.Name b n e = tt
operand_of kind.Number b n e = tt
operand_of kind.Character b n e = tt
operand_of kind.Str b n e = tt
operand_of kind.Symbol b n e = tt
operand_of kind.ArrayStart b n e = tt
operand_of kind.OpenParen b n e = tt
operand_of kind.OpenBracket b n e = tt
operand_of kind.Binary b n e = e
operand_of _ b n e = cc

no_statement_row : (d : TokenKind) (b : Bool) (l : Lexeme) → begins_statement d b ≡ false → body_takes d b l ≡ Pops
no_statement_row kind.Caret b l e = cc
no_statement_row kind.Name b l e = cc
no_statement_row kind.Number b l e = cc
no_statement_row kind.Character b l e = cc
no_statement_row kind.Str b l e = cc
no_statement_row kind.Symbol b l e = cc
no_statement_row kind.ArrayStart b l e = cc
no_statement_row kind.OpenParen b l e = cc
no_statement_row kind.OpenBracket b l e = cc
no_statement_row kind.Binary b l e = ap (λ x. body_takes kind.Binary x l) e
no_statement_row _ b l e = refl

pub no_statement : (text : List ℕ) (ts : List Token) (k : Stack) → statement_next text ts ≡ false → run true (lexemes text ts) (body ∷ k) ≡ run true (lexemes text ts) k
no_statement text [] k e = ends true body k refl
no_statement text (t ∷ ts) k e = pops true (lexeme text t ts) (lexemes text ts) body k (no_statement_row t.kind (is_minus (lexeme text t ts)) (lexeme text t ts) e)

plain_starts : (text : List ℕ) (ts : List Token) (k : Stack) → statement_next text ts ≡ true → IsNotNext kind.Caret ts → run true (lexemes text ts) (body ∷ k) ≡ run true (lexemes text ts) (expr_start ∷ after_statement ∷ k)
plain_starts text [] k e n = cc
plain_starts text (t ∷ ts) k e n = body_is_expr true (lexemes text (t ∷ ts)) (lexeme text t ts, lexemes text ts, refl, operand_of t.kind (is_minus (lexeme text t ts)) n e) k

pub starts : (text : List ℕ) (r : Bool) (ts first : List Token) → statement_next text ts ≡ true → TookCaret r ts first → (k : Stack) → run true (lexemes text ts) (body ∷ k) ≡ run true (lexemes text first) (expr_start ∷ after r ∷ k)
starts text true ts first e h k =
    at_list text ts (h.0 ∷ first) (body ∷ k) h.1
    ∙ pushes true (lexeme text h.0 first) (lexemes text first) body k (expr_start ∷ after_return ∷ []) (ap (λ x. body_takes x (is_minus (lexeme text h.0 first)) (lexeme text h.0 first)) h.2)
starts text false ts first e h k = plain_starts text ts k e h.0 ∙ at_list text ts first (expr_start ∷ after_statement ∷ k) h.1

pub caret_slices : (text : List ℕ) (r : Bool) (ts first : List Token) → TookCaret r ts first → AreSlices text ts → AreSlices text first
caret_slices text true ts first h w = tail_slices text ts first h.0 h.1 w
caret_slices text false ts first h w = subst (AreSlices text) h.1 w

pub caret_shorter : (r : Bool) (ts first : List Token) → TookCaret r ts first → length first ≤ length ts
caret_shorter true ts first h = omega (arith, ap length h.1)
caret_shorter false ts first h = omega (arith, ap length h.1)

caret_read : (text : List ℕ) (r : Bool) (ts first : List Token) → TookCaret r ts first → IsCaret r (lexemes text ts) (lexemes text first)
caret_read text true ts first h = (lexeme text h.0 first, takes_next text ts first h.0 kind.Caret h.1 h.2)
caret_read text false ts first h = ap (lexemes text) h.1

-- a period behind a statement
not_period : (d : TokenKind) (more : Stack) → d ≢ kind.Period → period_takes d more ≡ Pops
not_period kind.Period more n = absurd (n refl)
not_period _ more n = refl

no_period : (text : List ℕ) (r : Bool) (ts : List Token) (k : Stack) → IsNotNext kind.Period ts → run true (lexemes text ts) (after r ∷ k) ≡ run true (lexemes text ts) k
no_period text true ts k n = passed text after_return kind.Period ts k refl (λ l o. not_period l.kind [] o) n
no_period text false ts k n = passed text after_statement kind.Period ts k refl (λ l o. not_period l.kind (body ∷ []) o) n

-- what follows the period
abbrev more_statements : Bool → Stack → Stack
more_statements true k = k
more_statements false k = body ∷ k

period_taken : (text : List ℕ) (r : Bool) (ts rest : List Token) (t : Token) (k : Stack) → ts ≡ t ∷ rest → t.kind ≡ kind.Period → run true (lexemes text ts) (after r ∷ k) ≡ run true (lexemes text rest) (more_statements r k)
period_taken text true ts rest t k e n = at_list text ts (t ∷ rest) (after_return ∷ k) e ∙ pushes true (lexeme text t rest) (lexemes text rest) after_return k [] (ap (λ x. period_takes x []) n)
period_taken text false ts rest t k e n = at_list text ts (t ∷ rest) (after_statement ∷ k) e ∙ pushes true (lexeme text t rest) (lexemes text rest) after_statement k (body ∷ []) (ap (λ x. period_takes x (body ∷ [])) n)

-- a list with one statement more, as functions give it
pub statement_added : (new old : BodyTree) (s : StmtTree) (r : Bool) (e : ExprTree) → new ≡ body_append old (stmts s.0 s.1 no_stmts) → s ≡ (r, e) → new ≡ body_append old (stmts r e no_stmts)
statement_added new old s r e h i = h ∙ ap (λ x. body_append old (stmts x.0 x.1 no_stmts)) i

-- the statements so far, and more of them, are a body
abbrev pub BodyGoesOn : BodyTree → Lexemes → Lexemes → Type 0
BodyGoesOn old start ts = (more : BodyTree) (end : Lexemes) → IsBody more ts end → IsBody (body_append old more) start end

abbrev pub BodySame : List ℕ → ℕ → (List ℕ → Bool) → List Token → List Token → Type 0
BodySame text depth names ts rest = (k : Stack) → Stands depth names k → run true (lexemes text ts) (body ∷ k) ≡ run true (lexemes text rest) (body ∷ k)

pub body_none : (text : List ℕ) (b : BodyTree) (ts : List Token) → b ≡ no_stmts → BodyGoesOn b (lexemes text ts) (lexemes text ts)
body_none text b ts e = λ more end h. subst (λ x. IsBody (body_append x more) (lexemes text ts) end) (sym e) h

one_more : (old new : BodyTree) (r : Bool) (e : ExprTree) (more : BodyTree) (start a b c d end : Lexemes) → BodyGoesOn old start a → new ≡ body_append old (stmts r e no_stmts) → IsCaret r a b → IsExpr e b c → IsBetween r more c d → IsBody more d end → IsBody (body_append new more) start end
one_more old new r e more start a b c d end g p h x w i =
    subst (λ y. IsBody y start end) (sym (ap (λ y. body_append y more) p ∙ body_assoc old (stmts r e no_stmts) more)) (g (stmts r e more) end (b, c, d, h, x, w, i))

period_between : (more : BodyTree) (c d : Lexemes) → IsMark kind.Period c d → IsBetween false more c d
period_between no_stmts c d m = inl m
period_between (stmts r e ss) c d m = m

pub body_grows : (text : List ℕ) (depth : ℕ) (names : List ℕ → Bool) (old new : BodyTree) (r : Bool) (e : ExprTree) (start : Lexemes) (a first c d : List Token) (t : Token) → BodyGoesOn old start (lexemes text a) → TookCaret r a first → Parsed text depth names (expr_start ∷ []) (IsExpr e) first c → c ≡ t ∷ d → t.kind ≡ kind.Period → r ≡ false → new ≡ body_append old (stmts r e no_stmts) → BodyGoesOn new start (lexemes text d)
body_grows text depth names old new r e start a first c d t g h x i n f p = λ more end q.
    one_more old new r e more start (lexemes text a) (lexemes text first) (lexemes text c) (lexemes text d) end g p (caret_read text r a first h) x.read
    (subst (λ y. IsBetween y more (lexemes text c) (lexemes text d)) (sym f) (period_between more (lexemes text c) (lexemes text d) (lexeme text t d, takes_next text c d t kind.Period i n))) q

after_stands : (r : Bool) (depth : ℕ) (names : List ℕ → Bool) (k : Stack) → Stands depth names k → Stands depth names (after r ∷ k)
after_stands true depth names k g = g
after_stands false depth names k g = g

pub body_same : (text : List ℕ) (depth : ℕ) (names : List ℕ → Bool) (r : Bool) (R : Lexemes → Lexemes → Type 0) (ts a first c d : List Token) (t : Token) → BodySame text depth names ts a → statement_next text a ≡ true → TookCaret r a first → Parsed text depth names (expr_start ∷ []) R first c → c ≡ t ∷ d → t.kind ≡ kind.Period → r ≡ false → BodySame text depth names ts d
body_same text depth names r R ts a first c d t s b h x i n f = λ k g.
    s k g ∙ starts text r a first b h k ∙ x.same (after r ∷ k) (after_stands r depth names k g)
    ∙ period_taken text r c d t k i n ∙ ap (λ y. run true (lexemes text d) (more_statements y k)) f

pub body_fails : (text : List ℕ) (d : ParseFault) (depth : ℕ) (names : List ℕ → Bool) (r : Bool) (ts a first : List Token) → BodySame text depth names ts a → statement_next text a ≡ true → TookCaret r a first → FailsAs text depth names (expr_start ∷ []) (lexemes text first) d → FailsAs text depth names (body ∷ []) (lexemes text ts) d
body_fails text d depth names r ts a first s b h f =
    fails_back text d depth depth names names (body ∷ []) (expr_start ∷ []) (lexemes text ts) (lexemes text first) (λ k. after r ∷ k) (λ k g. (after_stands r depth names k g, s k g ∙ starts text r a first b h k)) f

-- the last statement, without a period and with one
pub body_ends : (text : List ℕ) (depth : ℕ) (names : List ℕ → Bool) (old new : BodyTree) (r : Bool) (e : ExprTree) (ts a first c : List Token) → BodyGoesOn old (lexemes text ts) (lexemes text a) → BodySame text depth names ts a → length a ≤ length ts → statement_next text a ≡ true → TookCaret r a first → Parsed text depth names (expr_start ∷ []) (IsExpr e) first c → IsNotNext kind.Period c → new ≡ body_append old (stmts r e no_stmts) → Parsed text depth names (body ∷ []) (IsBody new) ts c
body_ends text depth names old new r e ts a first c g s l b h x n p = record {
  read = subst (λ y. IsBody y (lexemes text ts) (lexemes text c)) (body_all new)
      (one_more old new r e no_stmts (lexemes text ts) (lexemes text a) (lexemes text first) (lexemes text c) (lexemes text c) (lexemes text c) g p (caret_read text r a first h) x.read (inr refl) refl);
  same = λ k f. s k f ∙ starts text r a first b h k ∙ x.same (after r ∷ k) (after_stands r depth names k f) ∙ no_period text r c k n;
  slices = x.slices;
  shorter = (let q = x.shorter in let m = caret_shorter r a first h in omega arith);
}

pub body_returns : (text : List ℕ) (depth : ℕ) (names : List ℕ → Bool) (old new : BodyTree) (r : Bool) (e : ExprTree) (ts a first c d : List Token) (t : Token) → BodyGoesOn old (lexemes text ts) (lexemes text a) → BodySame text depth names ts a → length a ≤ length ts → statement_next text a ≡ true → TookCaret r a first → Parsed text depth names (expr_start ∷ []) (IsExpr e) first c → c ≡ t ∷ d → t.kind ≡ kind.Period → r ≡ true → new ≡ body_append old (stmts r e no_stmts) → Parsed text depth names (body ∷ []) (IsBody new) ts d
body_returns text depth names old new r e ts a first c d t g s l b h x i n f p = record {
  read = subst (λ y. IsBody y (lexemes text ts) (lexemes text d)) (body_all new)
      (one_more old new r e no_stmts (lexemes text ts) (lexemes text a) (lexemes text first) (lexemes text c) (lexemes text d) (lexemes text d) g p (caret_read text r a first h) x.read (inl (lexeme text t d, takes_next text c d t kind.Period i n)) refl);
  same = λ k o.
      s k o ∙ starts text r a first b h k ∙ x.same (after r ∷ k) (after_stands r depth names k o)
      ∙ period_taken text r c d t k i n ∙ ap (λ y. run true (lexemes text d) (more_statements y k)) f;
  slices = tail_slices text c d t i x.slices;
  shorter = (let q = x.shorter in let m = caret_shorter r a first h in omega (arith, ap length i));
}

pub body_done : (text : List ℕ) (depth : ℕ) (names : List ℕ → Bool) (b : BodyTree) (ts rest : List Token) → BodyGoesOn b (lexemes text ts) (lexemes text rest) → BodySame text depth names ts rest → statement_next text rest ≡ false → AreSlices text rest → length rest ≤ length ts → Parsed text depth names (body ∷ []) (IsBody b) ts rest
body_done text depth names b ts rest g s n w q = record {
  read = subst (λ y. IsBody y (lexemes text ts) (lexemes text rest)) (body_all b) (g no_stmts (lexemes text rest) refl);
  same = λ k f. s k f ∙ no_statement text rest k n;
  slices = w;
  shorter = q;
}
