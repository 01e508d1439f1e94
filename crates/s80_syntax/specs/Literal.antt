-- Literals.
use Rattle.std.specs.Prelude.{◌≡◌, ◌≢◌, ℕ, ◌<◌, ◌⊎◌, List, [], ◌∷◌, Bool, true, false, length, Option, Some, None, Result, Ok, Err}
use Rattle.std.specs.Borrow.{Bor}
use Rattle.s80_base.specs.declared.literal.Literal.{Literal}
use Rattle.s80_base.specs.Literal.{LiteralTree, LiteralTrees, literal_of}
use Rattle.s80_lex.specs.declared.token.Token.{Token}
use Rattle.s80_lex.specs.declared.token.TokenKind.{TokenKind}
use Rattle.s80_lex.specs.declared.token.TokenKind.TheVariants as kind
use Rattle.s80_syntax.specs.Lexeme.{Lexemes, lexeme, lexemes}
use Rattle.s80_syntax.specs.Literals.{IsLiteralKind, token_literal}
use Rattle.s80_syntax.specs.Grammar.{IsMark, IsSingle, IsNegative, IsWord, IsArray, AreJoined, AreElements}
use Rattle.s80_syntax.specs.Stack.{Stack, run, level, elements}
use Rattle.s80_syntax.specs.Word.{is_minus}
use Rattle.s80_syntax.specs.declared.fault.ParseFault.{ParseFault}
use Rattle.s80_syntax.specs.Reads.{AreSlices, FailsAs, Took, bytes_of}

-- what a token is by itself, or none where it is no literal
abbrev pub IsTokenLiteral : List ℕ → Token → Option Literal → Type 0
IsTokenLiteral text t None = IsLiteralKind t.kind → ⊥
IsTokenLiteral text t (Some l) = IsLiteralKind t.kind × (literal_of l ≡ token_literal t.kind (bytes_of text t))

-- a number behind a minus, or none where no minus begins one here
abbrev pub NoMinus : List ℕ → List Token → Type 0
NoMinus text [] = Unit {0}
NoMinus text (t ∷ ts) = t.kind ≡ kind.Binary → is_minus (lexeme text t ts) ≡ false

abbrev pub IsNegativeNext : List ℕ → List Token → Option (Literal × Bor (List Token)) → Type 0
IsNegativeNext text ts None = NoMinus text ts
IsNegativeNext text ts (Some x) = Took text (IsNegative (literal_of x.0)) ts x.1.now

abbrev pub KeywordNext : List Token → Type 0
KeywordNext [] = ⊥
KeywordNext (t ∷ ts) = t.kind ≡ kind.Keyword

abbrev pub AreJoinedNext : List ℕ → List Token → List ℕ × Bor (List Token) → Type 0
AreJoinedNext text ts x = Took text (AreJoined x.0) ts x.1.now

-- an element that is no array
abbrev pub IsSimple : LiteralTree → Lexemes → Lexemes → Type 0
IsSimple v ts rest = IsSingle v ts rest ⊎ IsNegative v ts rest ⊎ IsWord v ts rest

-- what begins such an element
abbrev pub IsSimpleKind : TokenKind → Type 0
IsSimpleKind kind.Name = Unit {0}
IsSimpleKind kind.Binary = Unit {0}
IsSimpleKind kind.Keyword = Unit {0}
IsSimpleKind k = IsLiteralKind k

abbrev pub NoSimple : List Token → Type 0
NoSimple [] = Unit {0}
NoSimple (t ∷ ts) = IsSimpleKind t.kind → ⊥

abbrev pub IsSimpleNext : List ℕ → List Token → Option (Literal × Bor (List Token)) → Type 0
IsSimpleNext text ts None = NoSimple ts
IsSimpleNext text ts (Some x) = Took text (IsSimple (literal_of x.0)) ts x.1.now

abbrev pub opens_array : TokenKind → Bool
opens_array kind.ArrayStart = true
opens_array kind.OpenParen = true
opens_array _ = false

abbrev pub IsElement : LiteralTree → Lexemes → Lexemes → Type 0
IsElement v ts rest = IsSingle v ts rest ⊎ IsNegative v ts rest ⊎ IsWord v ts rest ⊎ IsArray true v ts rest

-- an element was read, and more elements are wanted
pub record TookElement (text : List ℕ) (depth : ℕ) (v : LiteralTree) (ts rest : List Token) : Type 0 where
  pub read : IsElement v (lexemes text ts) (lexemes text rest)
  pub same : (k : Stack) → level k ≡ depth → run true (lexemes text ts) (elements ∷ k) ≡ run true (lexemes text rest) (elements ∷ k)
  pub slices : AreSlices text rest
  pub shorter : length rest < length ts

-- no element comes next
abbrev pub NoElement : List ℕ → List Token → Type 0
NoElement text ts = (k : Stack) → run true (lexemes text ts) (elements ∷ k) ≡ run true (lexemes text ts) k

abbrev pub ParsesElement : List ℕ → ℕ → (List ℕ → Bool) → List Token → Result (Option (Literal × Bor (List Token))) ParseFault → Type 0
ParsesElement text depth names ts (Ok None) = NoElement text ts
ParsesElement text depth names ts (Ok (Some x)) = TookElement text depth (literal_of x.0) ts x.1.now
ParsesElement text depth names ts (Err e) = FailsAs text depth names (elements ∷ []) (lexemes text ts) e

-- an array behind its opening token
abbrev pub IsArrayRest : LiteralTrees → Lexemes → Lexemes → Type 0
IsArrayRest vs ts rest = (a : Lexemes) × AreElements vs ts a × IsMark kind.CloseParen a rest

-- neither a name nor a parenthesis nor a bracket comes next
abbrev pub IsOther : List Token → Type 0
IsOther [] = Unit {0}
IsOther (t ∷ ts) = (t.kind ≢ kind.Name) × (t.kind ≢ kind.OpenParen) × (t.kind ≢ kind.OpenBracket)
