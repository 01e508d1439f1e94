-- The printed form of values.
use Rattle.std.specs.Prelude.{ℕ, List, [], ◌∷◌, ◌++◌, ◌==◌, Bool, false, codes, take, length, nat_le, unwrap_or, if◌then◌else◌}
use Rattle.std.specs.Fmt.{signed_decimal}
use Rattle.std.specs.List.{flat_map, list_any}
use Rattle.std.specs.Option.{option_map_or}
use Rattle.s80_base.specs.declared.names.Side.{Side}
use Rattle.s80_base.specs.declared.names.Side.TheVariants as side
use Rattle.s80_lex.specs.Spelling.{quoted}
use Rattle.s80_class.specs.Classes.{Name}
use Rattle.s80_class.specs.Table.{Table, class_name}
use Rattle.s80_object.specs.Body.{BodyTree, pointers, bytes, words, home, block, items_of}
use Rattle.s80_object.specs.Objects.{State, body_at, text_of}
use Rattle.s80_object.specs.declared.value.Value.{Value}
use Rattle.s80_object.specs.declared.value.Value.TheVariants as value
use Rattle.s80_prims.specs.Classes.{class_number, is_kind_of}

abbrev pub begins_with_vowel : Name → Bool
begins_with_vowel [] = false
begins_with_vowel (b ∷ word) = list_any (λ vowel. vowel == b) (codes "AEIOU")

-- an object of a class by the class's name
abbrev pub with_article : Name → List ℕ
with_article word = if begins_with_vowel word then codes "an " ++ word else codes "a " ++ word

abbrev pub class_text : Name → Side → List ℕ
class_text word side.Instance = word
class_text word side.Class = word ++ codes " class"

-- an object that isn't printed by its elements
abbrev pub bytes_text : Table → ℕ → List ℕ → List ℕ
bytes_text t class items = if is_kind_of t class (codes "String") then quoted 39 items else with_article (class_name t class)

abbrev pub plain_body : Table → BodyTree → List ℕ
plain_body t (pointers class fields items) = with_article (class_name t class)
plain_body t (bytes class items) = bytes_text t class items
plain_body t (words class items) = with_article (class_name t class)
plain_body t (home method receiver temporaries) = codes "a MethodContext"
plain_body t (block whole start arguments) = codes "a BlockContext"

-- a value, but an array by its class's name
abbrev pub plain : Table → State → Value → List ℕ
plain t s (value.Small n) = signed_decimal n
plain t s (value.Character c) = 36 ∷ c ∷ []
plain t s value.Nil = codes "nil"
plain t s value.True = codes "true"
plain t s value.False = codes "false"
plain t s (value.Symbol n) = 35 ∷ unwrap_or (text_of s (value.Symbol n)) []
plain t s (value.Number n) = unwrap_or (text_of s (value.Number n)) []
plain t s (value.ClassRef c side) = class_text (class_name t c) side
plain t s (value.Object n) = option_map_or (plain_body t) (body_at s (value.Object n)) []
plain t s value.Context = codes "a MethodContext"
plain t s value.Transcript = codes "a TextCollector"
plain t s value.Smalltalk = codes "a SystemDictionary"

-- an instance of Array or of a descendant
abbrev pub is_array : Table → BodyTree → Bool
is_array t b = option_map_or (λ c. is_kind_of t c (codes "Array")) (class_number b) false

-- an element, and the space behind it
abbrev pub element : Table → State → Value → List ℕ
element t s v = plain t s v ++ 32 ∷ []

abbrev pub array_text : Table → State → List Value → List ℕ
array_text t s items = 40 ∷ flat_map (element t s) items ++ 41 ∷ []

abbrev pub body_text : Table → State → BodyTree → List ℕ
body_text t s b = if is_array t b then array_text t s (unwrap_or (items_of b) []) else plain_body t b

abbrev pub whole : Table → State → Value → List ℕ
whole t s (value.Object n) = option_map_or (body_text t s) (body_at s (value.Object n)) []
whole t s v = plain t s v

-- at most 4,096 bytes, and dots where there is more
abbrev pub shortened : List ℕ → List ℕ
shortened text = if nat_le (length text) 4096 then text else take 4096 text ++ codes "..."

abbrev pub printed : Table → State → Value → List ℕ
printed t s v = shortened (whole t s v)
