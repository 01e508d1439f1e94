-- How deep brackets may be nested, and what may be assigned. Where strict is false nothing is refused.
use Rattle.std.specs.Prelude.{◌≡◌, ℕ, suc, List, [], ◌∷◌, Bool, true, not, ◌&&◌, ◌||◌, nat_lt}
use Rattle.s80_base.specs.Literal.{LiteralTree, LiteralTrees, array, no_literals, literals}
use Rattle.s80_tree.specs.declared.name.NameAt.{NameAt}
use Rattle.s80_tree.specs.Tree.{ExprTree, PrimaryTree, ExprTrees, MessageTrees, BodyTree, MethodParts, DoItParts, expr, name, literal, block, paren, no_exprs, exprs, no_messages, messages, no_stmts, stmts}
use Rattle.s80_syntax.specs.Word.{Names, names_in, has_name, is_reserved}

-- a bracket may open where fewer than 64 are open
abbrev pub may_open : Bool → ℕ → Bool
may_open strict depth = not strict || nat_lt depth 64

-- which names may be assigned outside of a method's blocks: none that is reserved or a parameter, where of two equal
-- declarations the last one counts
abbrev pub home_assigns : Names → Names → List ℕ → Bool
home_assigns parameters temporaries word = (not (has_name parameters word) || has_name temporaries word) && not (is_reserved word)

-- and in a block: its parameters too
abbrev pub block_assigns : Names → (List ℕ → Bool) → List ℕ → Bool
block_assigns parameters assigns word = has_name parameters word || assigns word

abbrev pub may_assign : Bool → (List ℕ → Bool) → List ℕ → Bool
may_assign strict assigns word = not strict || assigns word

abbrev pub AreAssignable : Bool → (List ℕ → Bool) → List NameAt → Type 0
AreAssignable strict assigns [] = Unit {0}
AreAssignable strict assigns (n ∷ ns) = (may_assign strict assigns n.name ≡ true) × AreAssignable strict assigns ns

-- A part is lawful where it stands at this depth.
abbrev mutual
  pub IsLawfulLiteral : Bool → ℕ → LiteralTree → Type 0
  IsLawfulLiteral strict depth (array vs) = (may_open strict depth ≡ true) × AreLawfulLiterals strict (suc depth) vs
  IsLawfulLiteral strict depth _ = Unit {0}

  pub AreLawfulLiterals : Bool → ℕ → LiteralTrees → Type 0
  AreLawfulLiterals strict depth no_literals = Unit {0}
  AreLawfulLiterals strict depth (literals v vs) = IsLawfulLiteral strict depth v × AreLawfulLiterals strict depth vs

abbrev mutual
  pub IsLawfulExpr : Bool → ℕ → (List ℕ → Bool) → ExprTree → Type 0
  IsLawfulExpr strict depth assigns (expr targets p ms cs) =
      AreAssignable strict assigns targets × IsLawfulPrimary strict depth assigns p × AreLawfulMessages strict depth assigns ms × AreLawfulMessages strict depth assigns cs

  pub IsLawfulPrimary : Bool → ℕ → (List ℕ → Bool) → PrimaryTree → Type 0
  IsLawfulPrimary strict depth assigns (name n) = Unit {0}
  IsLawfulPrimary strict depth assigns (literal v) = IsLawfulLiteral strict depth v
  IsLawfulPrimary strict depth assigns (paren e) = (may_open strict depth ≡ true) × IsLawfulExpr strict (suc depth) assigns e
  IsLawfulPrimary strict depth assigns (block ps ss) =
      (may_open strict depth ≡ true) × IsLawfulBody strict (suc depth) (block_assigns (names_in ps) assigns) ss

  pub AreLawfulExprs : Bool → ℕ → (List ℕ → Bool) → ExprTrees → Type 0
  AreLawfulExprs strict depth assigns no_exprs = Unit {0}
  AreLawfulExprs strict depth assigns (exprs e es) = IsLawfulExpr strict depth assigns e × AreLawfulExprs strict depth assigns es

  pub AreLawfulMessages : Bool → ℕ → (List ℕ → Bool) → MessageTrees → Type 0
  AreLawfulMessages strict depth assigns no_messages = Unit {0}
  AreLawfulMessages strict depth assigns (messages s es ms) = AreLawfulExprs strict depth assigns es × AreLawfulMessages strict depth assigns ms

  pub IsLawfulBody : Bool → ℕ → (List ℕ → Bool) → BodyTree → Type 0
  IsLawfulBody strict depth assigns no_stmts = Unit {0}
  IsLawfulBody strict depth assigns (stmts r e ss) = IsLawfulExpr strict depth assigns e × IsLawfulBody strict depth assigns ss

abbrev pub IsLawfulMethod : Bool → MethodParts → Type 0
IsLawfulMethod strict m = IsLawfulBody strict 0 (home_assigns (names_in m.parameters) (names_in m.temporaries)) m.body

abbrev pub IsLawfulDoIt : Bool → DoItParts → Type 0
IsLawfulDoIt strict d = IsLawfulBody strict 0 (home_assigns [] (names_in d.temporaries)) d.body
