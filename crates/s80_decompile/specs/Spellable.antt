-- The trees that texts have, by their structure alone: the grammar without its tokens.
use Rattle.std.specs.Prelude.{◌≡◌, ℕ, ℤ, pos, negsuc, ◌<◌, ◌≤◌, ◌^◌, ◌⊎◌, List, [], ◌∷◌, Bool, true, false, length}
use Rattle.s80_base.specs.Literal.{LiteralTree, LiteralTrees, small, character, str, symbol, array, true_literal, false_literal, nil_literal, number, no_literals, literals}
use Rattle.s80_lex.specs.Number.{IsLawfulNumber, number_literal}
use Rattle.s80_lex.specs.Selector.{IsSelectorOf}
use Rattle.s80_lex.specs.Spelling.{IsName, IsBinary, IsKeywordSelector, IsNumber}
use Rattle.s80_syntax.specs.Grammar.{IsCascadeOf, IsEmpty, IsNone}
use Rattle.s80_syntax.specs.Limits.{IsLawfulMethod}
use Rattle.s80_syntax.specs.Word.{is_reserved}
use Rattle.s80_tree.specs.declared.name.NameAt.{NameAt}
use Rattle.s80_tree.specs.Tree.{ExprTree, PrimaryTree, ExprTrees, MessageTrees, BodyTree, MethodParts, expr, name, literal, block, paren, no_exprs, exprs, exprs_list, no_messages, messages, no_stmts, stmts}

-- a declared name, which is no reserved word
abbrev pub IsDeclarable : NameAt → Type 0
IsDeclarable n = IsName n.name × (is_reserved n.name ≡ false)

abbrev pub AreNames : List NameAt → Type 0
AreNames [] = Unit {0}
AreNames (n ∷ ns) = IsName n.name × AreNames ns

abbrev pub AreDeclarable : List NameAt → Type 0
AreDeclarable [] = Unit {0}
AreDeclarable (n ∷ ns) = IsDeclarable n × AreDeclarable ns

-- ---- literals

-- a SmallInteger
abbrev pub IsSmall : ℤ → Type 0
IsSmall (pos n) = n < 2 ^ 30
IsSmall (negsuc n) = n < 2 ^ 30

-- some number token means it, behind a minus or not
abbrev pub IsMeant : LiteralTree → Type 0
IsMeant v = (negative : Bool) × (word : List ℕ) × IsNumber word × IsLawfulNumber word × (v ≡ number_literal negative word)

-- inner: among the elements of an array
abbrev mutual
  pub IsSpellableLiteral : Bool → LiteralTree → Type 0
  IsSpellableLiteral inner (small n) = IsSmall n
  IsSpellableLiteral inner (character b) = Unit {0}
  IsSpellableLiteral inner (str text) = Unit {0}
  IsSpellableLiteral inner (symbol s) = (n : ℕ) × IsSelectorOf n s
  IsSpellableLiteral inner (array vs) = AreSpellableLiterals vs
  IsSpellableLiteral inner true_literal = inner ≡ true
  IsSpellableLiteral inner false_literal = inner ≡ true
  IsSpellableLiteral inner nil_literal = inner ≡ true
  IsSpellableLiteral inner (number k bytes) = IsMeant (number k bytes)

  pub AreSpellableLiterals : LiteralTrees → Type 0
  AreSpellableLiterals no_literals = Unit {0}
  AreSpellableLiterals (literals v vs) = IsSpellableLiteral true v × AreSpellableLiterals vs

-- ---- expressions

abbrev pub count : ExprTrees → ℕ
count es = length (exprs_list es)

-- nothing stands behind a statement that returns
abbrev pub MayFollow : Bool → BodyTree → Type 0
MayFollow false ss = Unit {0}
MayFollow true no_stmts = Unit {0}
MayFollow true (stmts r e ss) = ⊥

-- Messages bind by their kind: unary 0, binary 1, keyword 2. low is the least kind that may still come, and high the
-- greatest; after a keyword message none comes.
abbrev mutual
  pub IsSpellableExpr : ExprTree → Type 0
  IsSpellableExpr (expr ns p ms cs) =
      AreNames ns × IsSpellablePrimary p × AreSpellableMessages ms 0 2 × IsCascadeOf ms cs × IsSpellableCascade cs

  pub IsSpellablePrimary : PrimaryTree → Type 0
  IsSpellablePrimary (name n) = IsName n.name
  IsSpellablePrimary (literal v) = IsSpellableLiteral false v
  IsSpellablePrimary (paren e) = IsSpellableExpr e
  IsSpellablePrimary (block ps ss) = AreDeclarable ps × IsSpellableBody ss

  -- an argument: no target, no cascade, and messages up to this kind
  pub IsSpellableOperand : ExprTree → ℕ → Type 0
  IsSpellableOperand (expr ns p ms cs) high = (ns ≡ []) × IsNone cs × IsSpellablePrimary p × AreSpellableMessages ms 0 high

  pub AreSpellableOperands : ExprTrees → ℕ → Type 0
  AreSpellableOperands no_exprs high = Unit {0}
  AreSpellableOperands (exprs e es) high = IsSpellableOperand e high × AreSpellableOperands es high

  pub AreSpellableMessages : MessageTrees → ℕ → ℕ → Type 0
  AreSpellableMessages no_messages low high = Unit {0}
  AreSpellableMessages (messages s es ms) low high = (next : ℕ) × IsSpellableMessage es s low high next × AreSpellableMessages ms next high

  -- one message, after which next is the least kind
  pub IsSpellableMessage : ExprTrees → List ℕ → ℕ → ℕ → ℕ → Type 0
  IsSpellableMessage no_exprs s low high next = IsName s × (low ≡ 0) × (next ≡ 0)
  IsSpellableMessage (exprs e es) s low high next =
      (IsBinary s × (low ≤ 1) × (1 ≤ high) × (next ≡ 1) × IsSpellableOperand e 0 × IsEmpty es)
      ⊎ (IsKeywordSelector (count (exprs e es)) s × (low ≤ 2) × (2 ≤ high) × (next ≡ 3) × IsSpellableOperand e 1 × AreSpellableOperands es 1)

  pub IsSpellableCascade : MessageTrees → Type 0
  IsSpellableCascade no_messages = Unit {0}
  IsSpellableCascade (messages s es ms) = (next : ℕ) × IsSpellableMessage es s 0 2 next × IsSpellableCascade ms

  pub IsSpellableBody : BodyTree → Type 0
  IsSpellableBody no_stmts = Unit {0}
  IsSpellableBody (stmts r e ss) = IsSpellableExpr e × MayFollow r ss × IsSpellableBody ss

-- ---- methods

-- its parts are spelled, its brackets are nested at most 64 deep, and what is assigned may be
pub record IsSpellable (m : MethodParts) : Type 0 where
  pub selector : IsSelectorOf (length m.parameters) m.selector
  pub parameters : AreDeclarable m.parameters
  pub temporaries : AreDeclarable m.temporaries
  pub primitive : m.primitive ≤ 255
  pub body : IsSpellableBody m.body
  pub lawful : IsLawfulMethod true m
