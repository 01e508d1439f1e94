-- The objects of a doIt, and what each call makes of them.
use Rattle.std.specs.Prelude.{◌≡◌, ℕ, zero, suc, ◌+◌, ◌≤◌, ◌<◌, List, [], ◌∷◌, ◌++◌, length, slice_get, slice_set, nat_lt, Option, Some, None, Result, Ok, Err, option_and_then, if◌then◌else◌}
use Rattle.std.specs.Option.{option_map, option_map_or}
use Rattle.s80_base.specs.declared.literal.NumberKind.{NumberKind}
use Rattle.s80_object.specs.declared.value.Value.{Value}
use Rattle.s80_object.specs.declared.value.Value.TheVariants.{Symbol, Number, Object}
use Rattle.s80_object.specs.declared.value.ObjectFault.{ObjectFault}
use Rattle.s80_object.specs.declared.value.ObjectFault.TheVariants.{Memory, Full, Range, Kind}
use Rattle.s80_object.specs.Body.{BodyTree, pointers, bytes, words, home, block, cost, words_of, word_limit, fields_of, items_of, number_to}

-- a literal that is an object: the method and the entry that it stands in, and its value
pub record Made : Type 0 where
  pub method : ℕ
  pub entry : ℕ
  pub value : Value

-- a number that is kept as its text
pub record Opaque : Type 0 where
  pub kind : NumberKind
  pub text : List ℕ

-- the bodies, the symbols and the numbers by their numbers, and the literals that are objects, in the order in which they came
pub record State : Type 0 where
  pub bodies : List BodyTree
  pub symbols : List (List ℕ)
  pub numbers : List Opaque
  pub literals : List Made

abbrev pub no_objects : State
no_objects = record { bodies = []; symbols = []; numbers = []; literals = [] }

-- ---- objects

abbrev pub with_body : State → BodyTree → State
with_body s b = record s { bodies = s.bodies ++ b ∷ [] }

-- one more body: its value; or nothing is changed, when out of memory where it fits, or since the words would pass the limit
abbrev pub Makes : State → BodyTree → State → Result Value ObjectFault → Type 0
Makes old b new (Ok v) = (v ≡ Object (length old.bodies)) × ((new ≡ with_body old b) × (words_of old.bodies + cost b ≤ word_limit))
Makes old b new (Err Memory) = (new ≡ old) × (words_of old.bodies + cost b ≤ word_limit)
Makes old b new (Err (Full held)) = (new ≡ old) × ((held ≡ words_of old.bodies) × (word_limit < words_of old.bodies + cost b))
Makes old b new _ = ⊥

abbrev pub body_at : State → Value → Option BodyTree
body_at s (Object n) = slice_get s.bodies n
body_at s _ = None

-- a home
abbrev pub IsHome : Option BodyTree → Type 0
IsHome (Some (home method receiver temporaries)) = Unit {0}
IsHome _ = ⊥

-- ---- fields and items

-- what is read at a place of a part, if the value has the part
abbrev pub read_at : Option (List Value) → Option ℕ → Result Value ObjectFault
read_at None place = Err Kind
read_at (Some values) None = Err Range
read_at (Some values) (Some place) = option_map_or Ok (slice_get values place) (Err Range)

-- items count from 1
abbrev pub item_place : ℕ → Option ℕ
item_place zero = None
item_place (suc i) = Some i

abbrev pub fields_at : State → Value → Option (List Value)
fields_at s v = option_and_then fields_of (body_at s v)

abbrev pub items_at : State → Value → Option (List Value)
items_at s v = option_and_then items_of (body_at s v)

abbrev pub field : State → Value → ℕ → Result Value ObjectFault
field s v i = read_at (fields_at s v) (Some i)

abbrev pub item : State → Value → ℕ → Result Value ObjectFault
item s v i = read_at (items_at s v) (item_place i)

abbrev pub size_of : State → Value → Result ℕ ObjectFault
size_of s v = option_map_or (λ items. Ok (length items)) (items_at s v) (Err Kind)

-- a body in another's place
abbrev pub with_body_at : State → Value → BodyTree → State
with_body_at s (Object n) b = record s { bodies = slice_set s.bodies n b }
with_body_at s _ b = s

-- an element set at a place that counts from 1
abbrev pub placed : {X : Type 0} → List X → ℕ → X → (List X → BodyTree) → Result BodyTree ObjectFault
placed items zero x body = Err Range
placed items (suc i) x body = if nat_lt i (length items) then Ok (body (slice_set items i x)) else Err Range

-- a body with a field set
abbrev pub field_put : BodyTree → ℕ → Value → Result BodyTree ObjectFault
field_put (pointers class fields items) i to = placed fields (suc i) to (λ new. pointers class new items)
field_put (home method receiver temporaries) i to = placed temporaries (suc i) to (home method receiver)
field_put _ i to = Err Kind

-- a body with an item set: whether it fits is looked at before its place
abbrev pub item_put : BodyTree → ℕ → Value → Result BodyTree ObjectFault
item_put (pointers class fields items) i to = placed items i to (pointers class fields)
item_put (bytes class items) i to = option_map_or (λ n. placed items i n (bytes class)) (number_to 255 to) (Err Kind)
item_put (words class items) i to = option_map_or (λ n. placed items i n (words class)) (number_to 65535 to) (Err Kind)
item_put _ i to = Err Kind

-- the body of a value changed, or nothing
abbrev pub put_with : (BodyTree → Result BodyTree ObjectFault) → State → Value → Result BodyTree ObjectFault
put_with change s v = option_map_or change (body_at s v) (Err Kind)

abbrev pub IsPut : Result BodyTree ObjectFault → State → Value → State → Result (Unit {0}) ObjectFault → Type 0
IsPut (Ok b) old v new (Ok done) = new ≡ with_body_at old v b
IsPut (Err fault) old v new (Err told) = (told ≡ fault) × (new ≡ old)
IsPut _ old v new result = ⊥

-- ---- what other values are

abbrev pub text_of : State → Value → Option (List ℕ)
text_of s (Symbol n) = slice_get s.symbols n
text_of s (Number n) = option_map (λ number. number.text) (slice_get s.numbers n)
text_of s _ = None

abbrev pub number_kind_of : State → Value → Option NumberKind
number_kind_of s (Number n) = option_map (λ number. number.kind) (slice_get s.numbers n)
number_kind_of s _ = None

abbrev pub home_parts_of : BodyTree → Option (ℕ × Value)
home_parts_of (home method receiver temporaries) = Some (method, receiver)
home_parts_of _ = None

abbrev pub block_parts_of : BodyTree → Option (Value × ℕ × ℕ)
block_parts_of (block whole start arguments) = Some (whole, start, arguments)
block_parts_of _ = None
