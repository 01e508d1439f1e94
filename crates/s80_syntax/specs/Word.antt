-- Words and signs that are told apart by their bytes.
use Rattle.std.specs.Prelude.{ℕ, List, [], ◌∷◌, Bool, false, ◌&&◌, map, codes, nat_le, nat_lt, if◌then◌else◌, pos}
use Rattle.std.specs.List.{list_any}
use Rattle.std.specs.Str.{bytes_eq}
use Rattle.s80_base.specs.Literal.{LiteralTree, small}
use Rattle.s80_tree.specs.declared.name.NameAt.{NameAt}
use Rattle.s80_syntax.specs.Lexeme.{Lexeme}
use Rattle.s80_lex.specs.Number.{number_literal}

abbrev pub Names : Type 0
Names = List (List ℕ)

-- the names without their places
abbrev pub names_in : List NameAt → Names
names_in ns = map (λ n. n.name) ns

abbrev pub has_name : Names → List ℕ → Bool
has_name names word = list_any (bytes_eq word) names

abbrev pub reserved_words : Names
reserved_words = codes "self" ∷ codes "super" ∷ codes "true" ∷ codes "false" ∷ codes "nil" ∷ codes "thisContext" ∷ []

unfoldable pub is_reserved : List ℕ → Bool
is_reserved word = has_name reserved_words word

abbrev pub bar : List ℕ
bar = codes "|"

abbrev pub minus : List ℕ
minus = codes "-"

abbrev pub less : List ℕ
less = codes "<"

abbrev pub greater : List ℕ
greater = codes ">"

abbrev pub primitive_word : List ℕ
primitive_word = codes "primitive:"

unfoldable pub is_word : List ℕ → Lexeme → Bool
is_word word l = bytes_eq l.bytes word

-- a minus that begins a number
unfoldable pub is_minus : Lexeme → Bool
is_minus l = bytes_eq l.bytes minus && l.joined

-- the number of a primitive, or 0 where it is none from 1 to 255
abbrev pub primitive_value : LiteralTree → ℕ
primitive_value (small (pos n)) = if nat_le n 255 then n else 0
primitive_value _ = 0

unfoldable pub is_primitive_number : Lexeme → Bool
is_primitive_number l = nat_lt 0 (primitive_value (number_literal false l.bytes))
