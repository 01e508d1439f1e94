-- Names of classes and variables.
use Rattle.std.specs.Prelude.{◌≡◌, ◌<◌, ◌^◌, ℕ, List, [], ◌∷◌, Bool, true, false, not, ◌&&◌, ◌||◌, codes, length}
use Rattle.std.specs.Char.{is_ascii_uppercase}
use Rattle.std.specs.List.{All}
use Rattle.std.specs.Str.{bytes_eq}
use Rattle.s80_lex.specs.Selector.{IsSelectorOf, is_name as is_identifier}
use Rattle.s80_syntax.specs.Word.{is_reserved}

-- an identifier that is no reserved word
abbrev pub is_name : List ℕ → Bool
is_name word = is_identifier word && not (is_reserved word)

abbrev pub begins_with_capital : List ℕ → Bool
begins_with_capital [] = false
begins_with_capital (b ∷ bytes) = is_ascii_uppercase b

-- a name that a class can be given: it begins with a capital letter, and isn't that of one of two objects
abbrev pub is_class_name : List ℕ → Bool
is_class_name word = is_name word && begins_with_capital word && not (bytes_eq word (codes "Smalltalk") || bytes_eq word (codes "Transcript"))

abbrev pub IsName : List ℕ → Type 0
IsName word = is_name word ≡ true

abbrev pub AreNames : List (List ℕ) → Type 0
AreNames words = All IsName words

-- a selector of some number of parameters
abbrev pub IsSelectorWord : List ℕ → Type 0
IsSelectorWord word = (n : ℕ) × IsSelectorOf n word

-- a name or a text has fewer than 2^32 bytes
abbrev pub IsBrief : List ℕ → Type 0
IsBrief text = length text < 2 ^ 32

abbrev pub AreBrief : List (List ℕ) → Type 0
AreBrief texts = All IsBrief texts
