-- The objects that a literal is.
use Rattle.std.specs.Prelude.{◌≡◌, ℕ, ◌≤◌, ◌<◌, ◌==◌, List, [], ◌∷◌, ◌++◌, Bool, true, false, ◌&&◌, length, find, Option, Some, None, Result, Ok, Err, if◌then◌else◌}
use Rattle.std.specs.Option.{option_map}
use Rattle.std.specs.List.{list_any, position_or_len}
use Rattle.std.specs.Str.{bytes_eq}
use Rattle.s80_base.specs.declared.literal.NumberKind.{NumberKind}
use Rattle.s80_base.specs.declared.literal.NumberKind.TheVariants.{LargePositive, LargeNegative, Float}
use Rattle.s80_base.specs.Literal.{LiteralTree, LiteralTrees, small, character, str, symbol, array, true_literal, false_literal, nil_literal, number, no_literals, literals}
use Rattle.s80_object.specs.declared.value.Value.{Value}
use Rattle.s80_object.specs.declared.value.Value.TheVariants.{Small, Character, Nil, True, False, Symbol, Number, Object}
use Rattle.s80_object.specs.declared.value.ObjectFault.{ObjectFault}
use Rattle.s80_object.specs.declared.value.ObjectFault.TheVariants.{Memory, Full}
use Rattle.s80_object.specs.Body.{BodyTree, pointers, bytes, words_of, word_limit}
use Rattle.s80_object.specs.Objects.{State, Made, Opaque, with_body}

-- added at the end where no equal one is there
abbrev pub added_once : {X : Type 0} → (X → Bool) → X → List X → List X
added_once test x xs = if list_any test xs then xs else xs ++ x ∷ []

abbrev pub same_kind : NumberKind → NumberKind → Bool
same_kind LargePositive LargePositive = true
same_kind LargeNegative LargeNegative = true
same_kind Float Float = true
same_kind _ _ = false

abbrev pub is_opaque : NumberKind → List ℕ → Opaque → Bool
is_opaque kind text o = same_kind kind o.kind && bytes_eq text o.text

-- a value, with the state in which it stands
abbrev pub Built : Type 0
Built = State × Value

abbrev pub named : List ℕ → State → Built
named text s = (record s { symbols = added_once (bytes_eq text) text s.symbols }, Symbol (position_or_len (bytes_eq text) s.symbols))

abbrev pub opaque_number : NumberKind → List ℕ → State → Built
opaque_number kind text s = (
  record s { numbers = added_once (is_opaque kind text) (record { kind = kind; text = text }) s.numbers },
  Number (position_or_len (is_opaque kind text) s.numbers),
)

abbrev pub made : BodyTree → State → Built
made b s = (with_body s b, Object (length s.bodies))

abbrev pub array_of : ℕ → State × List Value → Built
array_of class p = made (pointers class [] p.1) p.0

abbrev pub with_first : Value → State × List Value → State × List Value
with_first v p = (p.0, v ∷ p.1)

-- A literal as a value, with the classes of strings and of arrays: each string and each array in it is an object of its own, from left to
-- right, an inner one before the array that holds it.
abbrev mutual
  pub built : ℕ → ℕ → LiteralTree → State → Built
  built strings arrays (small n) s = (s, Small n)
  built strings arrays (character c) s = (s, Character c)
  built strings arrays (str text) s = made (bytes strings text) s
  built strings arrays (symbol text) s = named text s
  built strings arrays (array vs) s = array_of arrays (built_all strings arrays vs s)
  built strings arrays true_literal s = (s, True)
  built strings arrays false_literal s = (s, False)
  built strings arrays nil_literal s = (s, Nil)
  built strings arrays (number kind text) s = opaque_number kind text s

  pub built_all : ℕ → ℕ → LiteralTrees → State → State × List Value
  built_all strings arrays no_literals s = (s, [])
  built_all strings arrays (literals v vs) s =
      with_first (built strings arrays v s).1 (built_all strings arrays vs (built strings arrays v s).0)

-- a literal that is an object
abbrev pub is_object : LiteralTree → Bool
is_object (str text) = true
is_object (array vs) = true
is_object _ = false

abbrev pub is_made_at : ℕ → ℕ → Made → Bool
is_made_at method entry m = m.method == method && m.entry == entry

-- the literal that was made before at an entry of a method
abbrev pub made_before : ℕ → ℕ → State → Option Value
made_before method entry s = option_map (λ m. m.value) (find (is_made_at method entry) s.literals)

-- an object is noted, and found at its next push
abbrev pub noted : ℕ → ℕ → Bool → Built → State
noted method entry true b = record b.0 { literals = b.0.literals ++ record { method = method; entry = entry; value = b.1 } ∷ [] }
noted method entry false b = b.0

-- the first push of a literal: its value; or nothing is changed, when out of memory where it fits, or since the words would pass the limit
abbrev pub PushesFirst : State → ℕ → ℕ → Bool → Built → State → Result Value ObjectFault → Type 0
PushesFirst old method entry object b new (Ok v) =
    (v ≡ b.1) × ((new ≡ noted method entry object b) × (words_of b.0.bodies ≤ word_limit))
PushesFirst old method entry object b new (Err Memory) = (new ≡ old) × (words_of b.0.bodies ≤ word_limit)
PushesFirst old method entry object b new (Err (Full held)) =
    (new ≡ old) × ((held ≡ words_of old.bodies) × (word_limit < words_of b.0.bodies))
PushesFirst old method entry object b new _ = ⊥

-- a push of a literal, which was made before or wasn't
abbrev pub PushesLiteral : Option Value → State → ℕ → ℕ → ℕ → ℕ → LiteralTree → State → Result Value ObjectFault → Type 0
PushesLiteral (Some before) old method entry strings arrays l new result = (result ≡ Ok before) × (new ≡ old)
PushesLiteral None old method entry strings arrays l new result =
    PushesFirst old method entry (is_object l) (built strings arrays l old) new result
