-- What a function of the descent says: what it read is read from the tokens that it took, and the stack of what is wanted
-- goes the same way.
use Rattle.std.specs.Prelude.{◌≡◌, ◌≢◌, ℕ, ◌<◌, ◌≤◌, List, [], ◌∷◌, ◌++◌, Bool, true, length, slice_range, Result, Ok, Err}
use Rattle.std.specs.List.{AllByRecursion}
use Rattle.std.specs.Borrow.{Bor}
use Rattle.s80_lex.specs.declared.token.Token.{Token}
use Rattle.s80_lex.specs.declared.token.TokenKind.{TokenKind}
use Rattle.s80_lex.specs.Text.{IsSlice}
use Rattle.s80_syntax.specs.Lexeme.{Lexeme, Lexemes, lexemes, place}
use Rattle.s80_syntax.specs.Faults.{Wrong, Unexpected, Nested, NotAssignable, fault_place}
use Rattle.s80_syntax.specs.Stack.{Stack, Fails, run, level, assigns}
use Rattle.s80_syntax.specs.declared.fault.ParseFault.{ParseFault}
use Rattle.s80_syntax.specs.declared.fault.ParseFault.TheVariants as fault

-- each is a token of this text
abbrev pub AreSlices : List ℕ → List Token → Type 0
AreSlices text ts = AllByRecursion (IsSlice text) ts

abbrev pub bytes_of : List ℕ → Token → List ℕ
bytes_of text t = slice_range text t.from t.to

-- where the next token begins
abbrev pub place_in : List ℕ → List Token → ℕ
place_in text ts = place (length text) (lexemes text ts)

-- no token of this kind comes next
abbrev pub IsNotNext : TokenKind → List Token → Type 0
IsNotNext k [] = Unit {0}
IsNotNext k (t ∷ ts) = t.kind ≢ k

-- no token of this kind with these bytes comes next
abbrev pub IsNotSign : TokenKind → List ℕ → List ℕ → List Token → Type 0
IsNotSign k word text [] = Unit {0}
IsNotSign k word text (t ∷ ts) = t.kind ≡ k → bytes_of text t ≢ word

-- something was read at the front, and rest is left
pub record Took (text : List ℕ) (Reads : Lexemes → Lexemes → Type 0) (ts rest : List Token) : Type 0 where
  pub read : Reads (lexemes text ts) (lexemes text rest)
  pub slices : AreSlices text rest
  pub shorter : length rest < length ts

-- so many brackets are open, and these names may be assigned
abbrev pub Stands : ℕ → (List ℕ → Bool) → Stack → Type 0
Stands depth names k = (level k ≡ depth) × (assigns k ≡ names)

-- the wanted symbols fail so in these tokens
pub record Stops (text : List ℕ) (depth : ℕ) (names : List ℕ → Bool) (wanted : Stack) (ts : Lexemes) (w : Wrong) (at : ℕ) : Type 0 where
  pub rest : Lexemes
  pub is_place : at ≡ fault_place (length text) w rest
  pub same : (k : Stack) → Stands depth names k → run true ts (wanted ++ k) ≡ Fails w rest

abbrev pub FailsAs : List ℕ → ℕ → (List ℕ → Bool) → Stack → Lexemes → ParseFault → Type 0
FailsAs text depth names wanted ts fault.Memory = Unit {0}
FailsAs text depth names wanted ts (fault.Unexpected at) = Stops text depth names wanted ts Unexpected at
FailsAs text depth names wanted ts (fault.Nested at) = Stops text depth names wanted ts Nested at
FailsAs text depth names wanted ts (fault.NotAssignable at) = (n : Lexeme) × Stops text depth names wanted ts (NotAssignable n) at
FailsAs text depth names wanted ts _ = ⊥

-- the wanted symbols are done where rest begins
abbrev pub Passes : ℕ → (List ℕ → Bool) → Stack → Lexemes → Lexemes → Type 0
Passes depth names wanted ts rest = (k : Stack) → Stands depth names k → run true ts (wanted ++ k) ≡ run true rest k

-- something was read from the tokens taken, the wanted symbols are done, and rest is left
pub record Parsed (text : List ℕ) (depth : ℕ) (names : List ℕ → Bool) (wanted : Stack) (Reads : Lexemes → Lexemes → Type 0) (ts rest : List Token) : Type 0 where
  pub read : Reads (lexemes text ts) (lexemes text rest)
  pub same : Passes depth names wanted (lexemes text ts) (lexemes text rest)
  pub slices : AreSlices text rest
  pub shorter : length rest ≤ length ts

-- what a function of the descent gives
abbrev pub Parses : {V : Type 0} → List ℕ → ℕ → (List ℕ → Bool) → Stack → (V → Lexemes → Lexemes → Type 0) → List Token → Result (V × Bor (List Token)) ParseFault → Type 0
Parses text depth names wanted Reads ts (Ok x) = Parsed text depth names wanted (Reads x.0) ts x.1.now
Parses text depth names wanted Reads ts (Err e) = FailsAs text depth names wanted (lexemes text ts) e

-- the same, where what is read is put behind something
abbrev pub ParsesInto : List ℕ → ℕ → (List ℕ → Bool) → Stack → (Lexemes → Lexemes → Type 0) → List Token → Result (Bor (List Token)) ParseFault → Type 0
ParsesInto text depth names wanted Reads ts (Ok rest) = Parsed text depth names wanted Reads ts rest.now
ParsesInto text depth names wanted Reads ts (Err e) = FailsAs text depth names wanted (lexemes text ts) e

abbrev pub IsMemory : ParseFault → Type 0
IsMemory fault.Memory = Unit {0}
IsMemory _ = ⊥
