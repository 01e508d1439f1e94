-- Selectors, with their numbers of parameters.
use Rattle.std.specs.Prelude.{◌≡◌, ℕ, suc, zero, ◌==◌, ◌&&◌, ◌||◌, ◌⊎◌, List, [], ◌∷◌, Bool, true, false, Option, Some, None, option_map, option_and_then, if◌then◌else◌}
use Rattle.std.specs.Char.{is_ascii_alphabetic, is_ascii_alphanumeric}
use Rattle.std.specs.List.{list_all}
use Rattle.s80_lex.specs.Class.{is_special}
use Rattle.s80_lex.specs.Spelling.{IsName, IsBinary, IsKeywordSelector}

-- a name takes no parameter, a binary selector one, and each keyword one
abbrev pub IsSelectorOf : ℕ → List ℕ → Type 0
IsSelectorOf n word = (IsName word × (n ≡ 0)) ⊎ ((IsBinary word × (n ≡ 1)) ⊎ IsKeywordSelector n word)

-- names and binary selectors, as tests
abbrev pub is_name : List ℕ → Bool
is_name [] = false
is_name (b ∷ bytes) = is_ascii_alphabetic b && list_all is_ascii_alphanumeric bytes

abbrev pub begins_binary : ℕ → Bool
begins_binary b = is_special b || b == 45

abbrev pub is_binary : List ℕ → Bool
is_binary (b ∷ []) = begins_binary b
is_binary (b ∷ c ∷ []) = begins_binary b && is_special c
is_binary _ = false

-- a byte goes on a name, or begins one
abbrev pub goes_on : Bool → ℕ → Bool
goes_on true byte = is_ascii_alphanumeric byte
goes_on false byte = is_ascii_alphabetic byte

-- how many colons end names, in a name and else
abbrev pub keywords_from : Bool → List ℕ → Option ℕ
keywords_from true [] = None
keywords_from false [] = Some 0
keywords_from in_name (byte ∷ bytes) =
    if in_name && byte == 58 then option_map suc (keywords_from false bytes) else
    (if goes_on in_name byte then keywords_from true bytes else None)

abbrev pub some_of : ℕ → Option ℕ
some_of zero = None
some_of (suc n) = Some (suc n)

abbrev pub keywords_of : List ℕ → Option ℕ
keywords_of bytes = option_and_then some_of (keywords_from false bytes)
