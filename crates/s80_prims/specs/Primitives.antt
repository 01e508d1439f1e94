-- The table of primitives.
use Rattle.std.specs.Prelude.{ℕ, suc, ◌+◌, ◌==◌, ℤ, pos, negsuc, List, [], ◌∷◌, ◌++◌, Bool, true, false, ◌&&◌, codes, length, map, slice_get, nat_le, replicate, Option, Some, None, Result, Ok, Err, find, option_and_then, if◌then◌else◌}
use Rattle.std.specs.Option.{option_map, option_map_or, option_or}
use Rattle.s80_base.specs.declared.names.Side.{Side}
use Rattle.s80_base.specs.declared.names.Side.TheVariants as side
use Rattle.s80_form.specs.declared.definition.Kind.{Kind}
use Rattle.s80_form.specs.declared.definition.Kind.TheVariants as kind
use Rattle.s80_class.specs.Table.{Table, number_of}
use Rattle.s80_object.specs.Body.{BodyTree, bytes, pointers, blank, bytes_of, cost, words_of, word_limit}
use Rattle.s80_object.specs.Literal.{named}
use Rattle.s80_object.specs.Objects.{State, body_at, item_put, items_at, put_with, text_of, with_body, with_body_at}
use Rattle.s80_object.specs.declared.value.ObjectFault.{ObjectFault}
use Rattle.s80_object.specs.declared.value.BodyKind.TheVariants as body
use Rattle.s80_object.specs.declared.value.Value.{Value}
use Rattle.s80_object.specs.declared.value.Value.TheVariants.{Small, Character, True, False, Nil, Symbol, Number, ClassRef, Object}
use Rattle.s80_object.specs.declared.value.Value.TheVariants as value
use Rattle.s80_prims.specs.declared.applied.Applied.{Applied}
use Rattle.s80_prims.specs.declared.applied.Applied.TheVariants.{Done, Fails, Stops}
use Rattle.s80_prims.specs.declared.stop.Stop.{Stop}
use Rattle.s80_prims.specs.declared.stop.Stop.TheVariants.{Error, ObjectsFull, TranscriptFull}
use Rattle.s80_prims.specs.Arithmetic.{arithmetic, ranged, truth}
use Rattle.s80_prims.specs.Classes.{can_be_new, class_of, is_kind_of, kind_of_class, variables_of}
use Rattle.s80_prims.specs.Printed.{printed}

-- objects, and what was written
pub record World : Type 0 where
  pub objects : State
  pub transcript : List ℕ

-- what a primitive comes to, and the world behind it
pub record Effect : Type 0 where
  pub applied : Applied
  pub world : World

abbrev pub done : World → Value → Effect
done w v = record { applied = Done v; world = w }

-- where it fails or stops nothing is changed
abbrev pub fails : World → Effect
fails w = record { applied = Fails; world = w }

abbrev pub stops : World → Stop → Effect
stops w stop = record { applied = Stops stop; world = w }

-- a value, or it fails
abbrev pub gives : World → Option Value → Effect
gives w o = option_map_or (done w) o (fails w)

-- a new object, or the words would pass the limit
abbrev pub makes : World → BodyTree → Effect
makes w b =
    if nat_le (words_of w.objects.bodies + cost b) word_limit
    then done (record w { objects = with_body w.objects b }) (Object (length w.objects.bodies))
    else stops w (ObjectsFull (words_of w.objects.bodies))

-- ---- items

-- the element at a place that counts from 1
abbrev pub at_place : {X : Type 0} → List X → Value → Option X
at_place items (Small (pos (suc i))) = slice_get items i
at_place items _ = None

-- the text of a symbol
abbrev pub symbol_text : State → Value → Option (List ℕ)
symbol_text s (Symbol n) = text_of s (Symbol n)
symbol_text s _ = None

-- the items of an object, or the bytes of a symbol, as values
abbrev pub readable : State → Value → Option (List Value)
readable s v = option_or (items_at s v) (option_map (map (λ n. Small (pos n))) (symbol_text s v))

-- the bytes of an object of bytes, or of a symbol
abbrev pub readable_bytes : State → Value → Option (List ℕ)
readable_bytes s v = option_or (option_and_then bytes_of (body_at s v)) (symbol_text s v)

abbrev pub put_done : World → Value → Value → Result BodyTree ObjectFault → Effect
put_done w r answer (Ok b) = done (record w { objects = with_body_at w.objects r b }) answer
put_done w r answer (Err fault) = fails w

-- an item put, if it fits there
abbrev pub puts : World → Value → ℕ → Value → Value → Effect
puts w r i to answer = put_done w r answer (put_with (λ b. item_put b i to) w.objects r)

-- only where an object has bytes
abbrev pub puts_character : World → Value → ℕ → ℕ → Effect
puts_character w r i c = option_map_or (λ items. puts w r i (Small (pos c)) (Character c)) (option_and_then bytes_of (body_at w.objects r)) (fails w)

-- ---- strings

-- the bytes of an object that is a string
abbrev pub string_bytes : Table → BodyTree → Option (List ℕ)
string_bytes t (bytes class items) = if is_kind_of t class (codes "String") then Some items else None
string_bytes t b = None

-- the bytes of a string or a symbol
abbrev pub text_bytes : Table → State → Value → Option (List ℕ)
text_bytes t s v = option_or (option_and_then (string_bytes t) (body_at s v)) (symbol_text s v)

abbrev pub with_text : World → Option (List ℕ) → (List ℕ → Effect) → Effect
with_text w o go = option_map_or go o (fails w)

abbrev pub transcript_limit : ℕ
transcript_limit = 65536

abbrev pub writes : World → Value → List ℕ → Effect
writes w r text =
    if nat_le (length w.transcript + length text) transcript_limit
    then done (record w { transcript = w.transcript ++ text }) r
    else stops w TranscriptFull

abbrev pub names : World → List ℕ → Effect
names w text = done (record w { objects = (named text w.objects).0 }) (named text w.objects).1

abbrev pub string_of : Table → List ℕ → BodyTree
string_of t text = bytes (option_map_or (λ n. n) (number_of t.names (codes "String")) 0) text

-- a string of a printed value
abbrev pub prints : Table → World → Value → Effect
prints t w v = makes w (string_of t (printed t w.objects v))

-- ---- new objects

abbrev pub new_plain : Table → World → ℕ → Kind → Effect
new_plain t w c kind.Plain = makes w (pointers c (replicate (variables_of t c) Nil) [])
new_plain t w c _ = fails w

abbrev pub new_indexed : Table → World → ℕ → Kind → ℕ → Effect
new_indexed t w c kind.Plain n = fails w
new_indexed t w c kind.Pointers n = makes w (blank c body.Pointers (variables_of t c) n)
new_indexed t w c kind.Bytes n = makes w (blank c body.Bytes 0 n)
new_indexed t w c kind.Words n = makes w (blank c body.Words 0 n)

-- a class as receiver, of which there can be new instances
abbrev pub of_class : Table → World → Value → (ℕ → Effect) → Effect
of_class t w (ClassRef c side.Instance) go = if can_be_new t c then go c else fails w
of_class t w _ go = fails w

-- ---- identity

-- one value: two numbers that are kept as their texts are one where kinds and texts are, and then they have one number
abbrev pub same_side : Side → Side → Bool
same_side side.Instance side.Instance = true
same_side side.Class side.Class = true
same_side _ _ = false

abbrev pub same_integer : ℤ → ℤ → Bool
same_integer (pos a) (pos b) = a == b
same_integer (negsuc a) (negsuc b) = a == b
same_integer _ _ = false

abbrev pub same : Value → Value → Bool
same (Small a) (Small b) = same_integer a b
same (Character a) (Character b) = a == b
same Nil Nil = true
same True True = true
same False False = true
same (Symbol a) (Symbol b) = a == b
same (Number a) (Number b) = a == b
same (ClassRef a one) (ClassRef b other) = a == b && same_side one other
same (Object a) (Object b) = a == b
same value.Context value.Context = true
same value.Transcript value.Transcript = true
same value.Smalltalk value.Smalltalk = true
same _ _ = false

-- ---- the table

abbrev pub two_numbers : ℕ → World → Value → Value → Effect
two_numbers n w (Small a) (Small b) = gives w (arithmetic n a b)
two_numbers n w _ _ = fails w

abbrev pub number_of_character : World → Value → Effect
number_of_character w (Character c) = done w (Small (pos c))
number_of_character w _ = fails w

abbrev pub character_of : World → Value → Effect
character_of w (Small (pos n)) = if nat_le n 255 then done w (Character n) else fails w
character_of w _ = fails w

abbrev pub put_at : World → Value → Value → Value → Effect
put_at w r (Small (pos i)) to = puts w r i to to
put_at w r _ to = fails w

abbrev pub put_character_at : World → Value → Value → Value → Effect
put_character_at w r (Small (pos i)) (Character c) = puts_character w r i c
put_character_at w r _ to = fails w

abbrev pub new_with : Table → World → Value → Value → Effect
new_with t w r (Small (pos n)) = of_class t w r (λ c. new_indexed t w c (kind_of_class t c) n)
new_with t w r _ = fails w

-- a primitive without arguments, with one, and with two, by its number
pub record Alone : Type 0 where
  pub number : ℕ
  pub effect : Table → World → Value → Effect

pub record WithOne : Type 0 where
  pub number : ℕ
  pub effect : Table → World → Value → Value → Effect

pub record WithTwo : Type 0 where
  pub number : ℕ
  pub effect : Table → World → Value → Value → Value → Effect

abbrev pub alone : ℕ → (Table → World → Value → Effect) → Alone
alone number effect = record { number = number; effect = effect }

abbrev pub with_one : ℕ → (Table → World → Value → Value → Effect) → WithOne
with_one number effect = record { number = number; effect = effect }

abbrev pub with_two : ℕ → (Table → World → Value → Value → Value → Effect) → WithTwo
with_two number effect = record { number = number; effect = effect }

-- size, new, class, the number of a character, the symbol of a text, the printed form
abbrev pub rows_alone : List Alone
rows_alone =
    alone 62 (λ t w r. gives w (option_and_then (λ items. ranged (pos (length items))) (readable w.objects r)))
    ∷ alone 70 (λ t w r. of_class t w r (λ c. new_plain t w c (kind_of_class t c)))
    ∷ alone 111 (λ t w r. done w (class_of t w.objects r))
    ∷ alone 130 (λ t w r. number_of_character w r)
    ∷ alone 132 (λ t w r. with_text w (text_bytes t w.objects r) (names w))
    ∷ alone 133 (λ t w r. prints t w r)
    ∷ []

-- an item, a byte as a character, new with items, identity, a text to the transcript, an error, a character
abbrev pub rows_with_one : List WithOne
rows_with_one =
    with_one 60 (λ t w r a. gives w (option_and_then (λ items. at_place items a) (readable w.objects r)))
    ∷ with_one 63 (λ t w r a. gives w (option_map Character (option_and_then (λ items. at_place items a) (readable_bytes w.objects r))))
    ∷ with_one 71 (λ t w r a. new_with t w r a)
    ∷ with_one 110 (λ t w r a. done w (truth (same r a)))
    ∷ with_one 128 (λ t w r a. with_text w (text_bytes t w.objects a) (writes w r))
    ∷ with_one 129 (λ t w r a. with_text w (text_bytes t w.objects a) (λ text. stops w (Error text)))
    ∷ with_one 131 (λ t w r a. character_of w a)
    ∷ []

-- an item put, a byte put as a character
abbrev pub rows_with_two : List WithTwo
rows_with_two =
    with_two 61 (λ t w r a b. put_at w r a b)
    ∷ with_two 64 (λ t w r a b. put_character_at w r a b)
    ∷ []

-- A primitive of this number applied to a receiver and arguments: a row applies with its own number of arguments alone.
abbrev pub primitive : Table → ℕ → Value → List Value → World → Effect
primitive t n r [] w = option_map_or (λ row. row.effect t w r) (find (λ row. row.number == n) rows_alone) (fails w)
primitive t n r (a ∷ []) w =
    option_map_or (λ row. row.effect t w r a) (find (λ row. row.number == n) rows_with_one) (two_numbers n w r a)
primitive t n r (a ∷ b ∷ []) w = option_map_or (λ row. row.effect t w r a b) (find (λ row. row.number == n) rows_with_two) (fails w)
primitive t n r _ w = fails w
