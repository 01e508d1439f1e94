-- What private steps promise.
use Rattle.std.specs.Prelude.{◌≡◌, ℕ, zero, suc, ◌+◌, ◌-◌, ◌/◌, ◌<◌, ◌≤◌, List, ◌++◌, length, slice_get, slice_set, nat_le, if◌then◌else◌, Option, Some, None, Result, Ok, Err}
use Rattle.std.specs.Option.{option_map_or}
use Rattle.s80_base.specs.Literal.{LiteralTree, LiteralTrees, str, array, no_literals, literals, literals_list}
use Rattle.s80_object.specs.declared.value.Value.{Value}
use Rattle.s80_object.specs.declared.value.ObjectFault.{ObjectFault}
use Rattle.s80_object.specs.declared.value.ObjectFault.TheVariants.{Range, Kind}
use Rattle.s80_object.specs.declared.objects.literal.Marks.{Marks}
use Rattle.s80_object.specs.Body.{BodyTree, words_of}
use Rattle.s80_object.specs.Objects.{Opaque, State}

-- the words of the objects that a literal is
abbrev mutual
  pub words_in : LiteralTree → ℕ
  words_in (str text) = 2 + (length text + 3) / 4
  words_in (array vs) = words_in_all vs + (2 + length (literals_list vs))
  words_in _ = 0

  pub words_in_all : LiteralTrees → ℕ
  words_in_all no_literals = 0
  words_in_all (literals v vs) = words_in v + words_in_all vs

-- what is left of room, if there is as much
abbrev pub left_of : ℕ → ℕ → Option ℕ
left_of room n = if nat_le n room then Some (room - n) else None

-- what stood before stands in front
pub record IsBefore (old new : State) : Type 0 where
  pub bodies : List BodyTree
  pub symbols : List (List ℕ)
  pub numbers : List Opaque
  pub bodies_are : new.bodies ≡ old.bodies ++ bodies
  pub symbols_are : new.symbols ≡ old.symbols ++ symbols
  pub numbers_are : new.numbers ≡ old.numbers ++ numbers
  pub literals_are : new.literals ≡ old.literals

-- ---- an element, a body and the bodies after a change

abbrev pub IsSet : {X : Type 0} → List X → ℕ → X → List X → Result (Unit {0}) ObjectFault → Type 0
IsSet old i x new (Ok done) = (i < length old) × (new ≡ slice_set old i x)
IsSet old i x new (Err fault) = (length old ≤ i) × ((fault ≡ Range) × (new ≡ old))

-- where the first element is at 1
abbrev pub IsItemSet : {X : Type 0} → List X → ℕ → X → List X → Result (Unit {0}) ObjectFault → Type 0
IsItemSet old zero x new result = (result ≡ Err Range) × (new ≡ old)
IsItemSet old (suc i) x new result = IsSet old i x new result

abbrev pub IsChanged : Result BodyTree ObjectFault → BodyTree → BodyTree → Result (Unit {0}) ObjectFault → Type 0
IsChanged (Ok b) old new (Ok done) = new ≡ b
IsChanged (Err fault) old new (Err told) = (told ≡ fault) × (new ≡ old)
IsChanged _ old new result = ⊥

abbrev pub IsPutAt : Result BodyTree ObjectFault → List BodyTree → ℕ → List BodyTree → Result (Unit {0}) ObjectFault → Type 0
IsPutAt (Ok b) old n new (Ok done) = new ≡ slice_set old n b
IsPutAt (Err fault) old n new (Err told) = (told ≡ fault) × (new ≡ old)
IsPutAt _ old n new result = ⊥

-- what is read at a place that counts from 1
abbrev pub item_in : {X : Type 0} → List X → ℕ → Option X
item_in items zero = None
item_in items (suc i) = slice_get items i

abbrev pub size_in : Option (List Value) → Result ℕ ObjectFault
size_in items = option_map_or (λ items. Ok (length items)) items (Err Kind)

-- ---- marks

pub record AreMarks (s : State) (m : Marks) : Type 0 where
  pub bodies : m.bodies ≡ length s.bodies
  pub words : m.words ≡ words_of s.bodies
  pub symbols : m.symbols ≡ length s.symbols
  pub numbers : m.numbers ≡ length s.numbers
