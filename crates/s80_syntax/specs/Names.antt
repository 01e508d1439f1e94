-- Names that are declared or assigned.
use Rattle.std.specs.Prelude.{◌≡◌, ℕ, ◌≤◌, List, [], ◌∷◌, Bool, true, length, Option, Some, None, Result, Ok, Err}
use Rattle.std.specs.Borrow.{Bor}
use Rattle.s80_lex.specs.declared.token.Token.{Token}
use Rattle.s80_lex.specs.declared.token.TokenKind.TheVariants as kind
use Rattle.s80_tree.specs.declared.name.NameAt.{NameAt}
use Rattle.s80_tree.specs.declared.name.NamesAt.{NamesAt}
use Rattle.s80_tree.specs.Name.{names_of}
use Rattle.s80_syntax.specs.Lexeme.{lexemes}
use Rattle.s80_syntax.specs.Grammar.{IsDeclared, IsTargets, AreParameters}
use Rattle.s80_syntax.specs.Stack.{Symbol, Stack, run, assigns, expr_start, block_start, after_parameter}
use Rattle.s80_syntax.specs.Word.{Names, names_in, is_reserved}
use Rattle.s80_syntax.specs.declared.fault.ParseFault.{ParseFault}
use Rattle.s80_syntax.specs.Reads.{AreSlices, IsNotNext, FailsAs, Took, bytes_of}

-- no name that may be declared comes next
abbrev pub NoDeclared : List ℕ → List Token → Type 0
NoDeclared text [] = Unit {0}
NoDeclared text (t ∷ ts) = t.kind ≡ kind.Name → is_reserved (bytes_of text t) ≡ true

abbrev pub IsDeclaredNext : List ℕ → List Token → Option (NameAt × Bor (List Token)) → Type 0
IsDeclaredNext text ts None = NoDeclared text ts
IsDeclaredNext text ts (Some x) = Took text (IsDeclared x.0) ts x.1.now

-- an assigned name comes next
abbrev pub IsTargetNext : List Token → Type 0
IsTargetNext [] = ⊥
IsTargetNext (t ∷ []) = ⊥
IsTargetNext (t ∷ u ∷ ts) = (t.kind ≡ kind.Name) × (u.kind ≡ kind.Assign)

-- the assigned names were read, and none comes next
pub record TookTargets (text : List ℕ) (names : List ℕ → Bool) (targets : List NameAt) (ts rest : List Token) : Type 0 where
  pub read : IsTargets targets (lexemes text ts) (lexemes text rest)
  pub same : (k : Stack) → assigns k ≡ names → run true (lexemes text ts) (expr_start ∷ k) ≡ run true (lexemes text rest) (expr_start ∷ k)
  pub none : IsTargetNext rest → ⊥
  pub slices : AreSlices text rest
  pub shorter : length rest ≤ length ts

abbrev pub ParsesTargets : List ℕ → ℕ → (List ℕ → Bool) → List Token → Result (NamesAt × Bor (List Token)) ParseFault → Type 0
ParsesTargets text depth names ts (Ok x) = TookTargets text names (names_of x.0) ts x.1.now
ParsesTargets text depth names ts (Err e) = FailsAs text depth names (expr_start ∷ []) (lexemes text ts) e

-- what may come behind these parameters of a block
abbrev pub parameter_symbol : Names → Symbol
parameter_symbol [] = block_start
parameter_symbol (n ∷ ns) = after_parameter (n ∷ ns)

-- a block's parameters were read, and none comes next
pub record TookParameters (text : List ℕ) (parameters : List NameAt) (ts rest : List Token) : Type 0 where
  pub read : AreParameters parameters (lexemes text ts) (lexemes text rest)
  pub same : (k : Stack) → run true (lexemes text ts) (block_start ∷ k) ≡ run true (lexemes text rest) (parameter_symbol (names_in parameters) ∷ k)
  pub none : IsNotNext kind.Colon rest
  pub slices : AreSlices text rest
  pub shorter : length rest ≤ length ts

abbrev pub ParsesParameters : List ℕ → ℕ → (List ℕ → Bool) → List Token → Result (NamesAt × Bor (List Token)) ParseFault → Type 0
ParsesParameters text depth names ts (Ok x) = TookParameters text (names_of x.0) ts x.1.now
ParsesParameters text depth names ts (Err e) = FailsAs text depth names (block_start ∷ []) (lexemes text ts) e
