-- What stands alone as an operand, as it is read.
use Rattle.std.proofs.Common.{subst, ◌≡◌, ℕ, ◌+◌, ◌<◌, List, [], ◌∷◌, Bool, true, length, refl, ap, sym, ◌∙◌, arith, Result}
use Rattle.std.specs.Borrow.{Bor}
use Rattle.s80_base.specs.Literal.{LiteralTree}
use Rattle.s80_lex.specs.declared.token.Token.{Token}
use Rattle.s80_lex.specs.declared.token.TokenKind.{TokenKind}
use Rattle.s80_lex.specs.declared.token.TokenKind.TheVariants as kind
use Rattle.s80_tree.specs.declared.name.NameAt.{NameAt}
use Rattle.s80_tree.specs.declared.expr.Primary.{Primary}
use Rattle.s80_tree.specs.Tree.{ExprTree, PrimaryTree, name, literal, block, paren, primary_of}
use Rattle.s80_syntax.specs.Lexeme.{Lexeme, Lexemes, lexeme, lexemes}
use Rattle.s80_syntax.specs.Grammar.{Takes, IsLiteral, IsExpr, IsPrimary}
use Rattle.s80_syntax.specs.Word.{is_minus}
use Rattle.s80_syntax.specs.Faults.{Unexpected}
use Rattle.s80_syntax.specs.Stack.{Stack, Opens, Refuses, run, takes, primary_takes, primary, expr_start, close_paren, close_bracket, block_start}
use Rattle.s80_syntax.proofs.Moves.{pushes}
use Rattle.s80_syntax.specs.declared.fault.ParseFault.{ParseFault}
use Rattle.s80_syntax.specs.declared.fault.ParseFault.TheVariants as fault
use Rattle.s80_syntax.specs.Reads.{AreSlices, IsNotNext, Stands, Stops, FailsAs, Parsed, Parses, place_in, bytes_of}
use Rattle.s80_syntax.specs.Expr.{IsParenRest, IsBlockRest}
use Rattle.s80_syntax.proofs.NextToken.{takes_next, tail_slices}
use Rattle.s80_syntax.proofs.Steps.{at_list, stops_nested, opened, passes_on}
use Rattle.s80_syntax.proofs.Closing.{inner_fails, unclosed, paren_missing, paren_closes}

pub name_primary : (text : List ℕ) (depth : ℕ) (names : List ℕ → Bool) (v : PrimaryTree) (n : NameAt) (ts tail : List Token) (t : Token) → AreSlices text ts → ts ≡ t ∷ tail → t.kind ≡ kind.Name → v ≡ name n → (n.name ≡ bytes_of text t) × (n.at ≡ t.from) → Parsed text depth names (primary ∷ []) (IsPrimary v) ts tail
name_primary text depth names v n ts tail t w e k h i = record {
  read = subst (λ y. IsPrimary y (lexemes text ts) (lexemes text tail)) (sym h) (lexeme text t tail, takes_next text ts tail t kind.Name e k, i.0, i.1);
  same = λ s g. at_list text ts (t ∷ tail) (primary ∷ s) e ∙ pushes true (lexeme text t tail) (lexemes text tail) primary s [] (ap (λ x. primary_takes x (is_minus (lexeme text t tail)) [] Refuses) k);
  slices = tail_slices text ts tail t e w;
  shorter = omega (arith, ap length e);
}

pub literal_primary : (text : List ℕ) (depth : ℕ) (names : List ℕ → Bool) (v : PrimaryTree) (w : LiteralTree) (ts rest : List Token) → Parsed text depth names (primary ∷ []) (IsLiteral w) ts rest → v ≡ literal w → Parsed text depth names (primary ∷ []) (IsPrimary v) ts rest
literal_primary text depth names v w ts rest x e = record {
  read = subst (λ y. IsPrimary y (lexemes text ts) (lexemes text rest)) (sym e) x.read;
  same = x.same;
  slices = x.slices;
  shorter = x.shorter;
}

-- an opening token
paren_row : (text : List ℕ) (t : Token) (tail : List Token) → t.kind ≡ kind.OpenParen → takes primary (lexeme text t tail) ≡ Opens (expr_start ∷ close_paren ∷ [])
paren_row text t tail k = ap (λ x. primary_takes x (is_minus (lexeme text t tail)) [] Refuses) k

bracket_row : (text : List ℕ) (t : Token) (tail : List Token) → t.kind ≡ kind.OpenBracket → takes primary (lexeme text t tail) ≡ Opens (block_start ∷ close_bracket ∷ [])
bracket_row text t tail k = ap (λ x. primary_takes x (is_minus (lexeme text t tail)) [] Refuses) k

nested : (text : List ℕ) (depth : ℕ) (names : List ℕ → Bool) (pushed : Stack) (ts tail : List Token) (t : Token) (e : ParseFault) → ts ≡ t ∷ tail → takes primary (lexeme text t tail) ≡ Opens pushed → (depth ≡ 64) × (e ≡ fault.Nested (place_in text ts)) → FailsAs text depth names (primary ∷ []) (lexemes text ts) e
nested text depth names pushed ts tail t e h o m =
    subst (FailsAs text depth names (primary ∷ []) (lexemes text ts)) (sym m.1) (stops_nested text depth names primary pushed ts tail t (place_in text ts) h o m.0 refl)

pub paren_nested : (text : List ℕ) (depth : ℕ) (names : List ℕ → Bool) (ts tail : List Token) (t : Token) (e : ParseFault) → ts ≡ t ∷ tail → t.kind ≡ kind.OpenParen → (depth ≡ 64) × (e ≡ fault.Nested (place_in text ts)) → FailsAs text depth names (primary ∷ []) (lexemes text ts) e
paren_nested text depth names ts tail t e h k m = nested text depth names (expr_start ∷ close_paren ∷ []) ts tail t e h (paren_row text t tail k) m

pub block_nested : (text : List ℕ) (depth : ℕ) (names : List ℕ → Bool) (ts tail : List Token) (t : Token) (e : ParseFault) → ts ≡ t ∷ tail → t.kind ≡ kind.OpenBracket → (depth ≡ 64) × (e ≡ fault.Nested (place_in text ts)) → FailsAs text depth names (primary ∷ []) (lexemes text ts) e
block_nested text depth names ts tail t e h k m = nested text depth names (block_start ∷ close_bracket ∷ []) ts tail t e h (bracket_row text t tail k) m

paren_read : (v : PrimaryTree) (l : Lexeme) (ts tail end : Lexemes) → Takes kind.OpenParen l ts tail → IsParenRest v tail end → IsPrimary v ts end
paren_read (paren e) l ts tail end h g = (tail, g.0, (l, h), g.1, g.2)
paren_read _ l ts tail end h g = absurd g

pub paren_passes : (text : List ℕ) (depth : ℕ) (names : List ℕ → Bool) (ts tail : List Token) (t : Token) (r : Result (Primary × Bor (List Token)) ParseFault) → ts ≡ t ∷ tail → t.kind ≡ kind.OpenParen → depth < 64 → Parses text depth names (expr_start ∷ close_paren ∷ []) (λ x. IsParenRest (primary_of x)) tail r → Parses text depth names (primary ∷ []) (λ x. IsPrimary (primary_of x)) ts r
paren_passes text depth names ts tail t r e k d x =
    passes_on text depth names names (primary ∷ []) (expr_start ∷ close_paren ∷ []) (λ s. s) (λ y. IsParenRest (primary_of y)) (λ y. IsPrimary (primary_of y)) ts tail r
    (λ s g. (g, opened text depth primary (expr_start ∷ close_paren ∷ []) ts tail t s e (paren_row text t tail k) d g.0))
    (λ end s. refl) (λ v end h. paren_read (primary_of v) (lexeme text t tail) (lexemes text ts) (lexemes text tail) end (takes_next text ts tail t kind.OpenParen e k) h) (omega (arith, ap length e)) x

block_read : (v : PrimaryTree) (l : Lexeme) (ts tail end : Lexemes) → Takes kind.OpenBracket l ts tail → IsBlockRest v tail end → IsPrimary v ts end
block_read (block ps ss) l ts tail end h g = (tail, g.0, g.3.0, g.1, (l, h), g.2, g.3.1, g.3.2, g.4)
block_read _ l ts tail end h g = absurd g

pub block_passes : (text : List ℕ) (depth : ℕ) (names : List ℕ → Bool) (ts tail : List Token) (t : Token) (r : Result (Primary × Bor (List Token)) ParseFault) → ts ≡ t ∷ tail → t.kind ≡ kind.OpenBracket → depth < 64 → Parses text depth names (block_start ∷ close_bracket ∷ []) (λ x. IsBlockRest (primary_of x)) tail r → Parses text depth names (primary ∷ []) (λ x. IsPrimary (primary_of x)) ts r
block_passes text depth names ts tail t r e k d x =
    passes_on text depth names names (primary ∷ []) (block_start ∷ close_bracket ∷ []) (λ s. s) (λ y. IsBlockRest (primary_of y)) (λ y. IsPrimary (primary_of y)) ts tail r
    (λ s g. (g, opened text depth primary (block_start ∷ close_bracket ∷ []) ts tail t s e (bracket_row text t tail k) d g.0))
    (λ end s. refl) (λ v end h. block_read (primary_of v) (lexeme text t tail) (lexemes text ts) (lexemes text tail) end (takes_next text ts tail t kind.OpenBracket e k) h) (omega (arith, ap length e)) x

-- an expression in parentheses, behind the first
pub paren_fails : (text : List ℕ) (depth inner : ℕ) (names : List ℕ → Bool) (ts : List Token) (e : ParseFault) → inner ≡ depth + 1 → FailsAs text inner names (expr_start ∷ []) (lexemes text ts) e → FailsAs text depth names (expr_start ∷ close_paren ∷ []) (lexemes text ts) e
paren_fails text depth inner names ts e i h = inner_fails text depth inner names expr_start close_paren ts e (λ k g. ((let f = g.0 in omega arith), g.1)) h

pub paren_unclosed : (text : List ℕ) (depth inner : ℕ) (names : List ℕ → Bool) (e : ExprTree) (ts rest : List Token) (p : ℕ) → inner ≡ depth + 1 → Parsed text inner names (expr_start ∷ []) (IsExpr e) ts rest → IsNotNext kind.CloseParen rest → p ≡ place_in text rest → Stops text depth names (expr_start ∷ close_paren ∷ []) (lexemes text ts) Unexpected p
paren_unclosed text depth inner names e ts rest p i x n q =
    unclosed text depth inner names expr_start close_paren (IsExpr e) ts rest p (λ k g. ((let f = g.0 in omega arith), g.1)) x (paren_missing text depth names rest p n q)

pub paren_done : (text : List ℕ) (depth inner : ℕ) (names : List ℕ → Bool) (v : PrimaryTree) (f : ExprTree) (ts rest after : List Token) (t : Token) → inner ≡ depth + 1 → Parsed text inner names (expr_start ∷ []) (IsExpr f) ts rest → rest ≡ t ∷ after → t.kind ≡ kind.CloseParen → v ≡ paren f → Parsed text depth names (expr_start ∷ close_paren ∷ []) (IsParenRest v) ts after
paren_done text depth inner names v f ts rest after t i x e n h = record {
  read = subst (λ y. IsParenRest y (lexemes text ts) (lexemes text after)) (sym h) (lexemes text rest, x.read, (lexeme text t after, takes_next text rest after t kind.CloseParen e n));
  same = λ k g. x.same (close_paren ∷ k) ((let f = g.0 in omega arith), g.1) ∙ paren_closes text rest after t e n k;
  slices = tail_slices text rest after t e x.slices;
  shorter = (let s = x.shorter in omega (arith, ap length e));
}
