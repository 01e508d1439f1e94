-- What numbers mean.
use Rattle.std.specs.Prelude.{◌≢◌, ℕ, ◌*◌, ◌^◌, ◌<◌, ◌≤◌, Bool, ◌==◌, ◌||◌, nat_lt, nat_le, not, List, ◌∷◌, if◌then◌else◌, pos, neg_ℤ}
use Rattle.std.specs.List.{AllByRecursion, list_any, before_first, after_first}
use Rattle.std.specs.Char.{digit_value}
use Rattle.std.specs.Str.Parse.{digits_value}
use Rattle.s80_base.specs.Literal.{LiteralTree, small, number}
use Rattle.s80_base.specs.declared.literal.NumberKind.TheVariants.{LargePositive, LargeNegative, Float}

-- what stands before a mark, all where it doesn't stand; and what stands behind it
abbrev pub before : ℕ → List ℕ → List ℕ
before mark bytes = before_first (λ b. b == mark) bytes

abbrev pub behind : ℕ → List ℕ → List ℕ
behind mark bytes = after_first (λ b. b == mark) bytes

abbrev pub has : ℕ → List ℕ → Bool
has mark bytes = list_any (λ b. b == mark) bytes

-- the radix before an r (114), or ten; the digits up to an e (101), with the period of a fraction; the exponent
-- behind it, or 0
abbrev pub radix_of : List ℕ → ℕ
radix_of bytes = if has 114 bytes then digits_value 10 (before 114 bytes) else 10

abbrev pub digits_of : List ℕ → List ℕ
digits_of bytes = if has 114 bytes then behind 114 (before 101 bytes) else before 101 bytes

abbrev pub exponent_of : List ℕ → ℕ
exponent_of bytes = digits_value 10 (behind 101 bytes)

-- each digit is below the radix; a period (46) is none
abbrev pub AreBelow : ℕ → List ℕ → Type 0
AreBelow radix digits = AllByRecursion (λ b. b ≢ 46 → digit_value b < radix) digits

-- the radix is from 2 to 36, and each digit is below it
pub record IsLawfulNumber (bytes : List ℕ) : Type 0 where
  pub radix_from : 2 ≤ radix_of bytes
  pub radix_to : radix_of bytes ≤ 36
  pub digits : AreBelow (radix_of bytes) (digits_of bytes)

-- it has neither a period nor a minus (45), so neither a fraction nor a negative exponent
abbrev pub is_whole : List ℕ → Bool
is_whole bytes = not (has 46 bytes || has 45 bytes)

abbrev pub whole_value : List ℕ → ℕ
whole_value bytes = digits_value (radix_of bytes) (digits_of bytes) * radix_of bytes ^ exponent_of bytes

-- small integers go from -2^30 to 2^30 - 1
abbrev pub positive_literal : List ℕ → LiteralTree
positive_literal bytes =
    if nat_lt (whole_value bytes) (2 ^ 30) then small (pos (whole_value bytes)) else number LargePositive bytes

abbrev pub negative_literal : List ℕ → LiteralTree
negative_literal bytes =
    if nat_le (whole_value bytes) (2 ^ 30) then small (neg_ℤ (pos (whole_value bytes)))
    else number LargeNegative (45 ∷ bytes)

-- the bytes, behind a minus or not
abbrev pub signed : Bool → List ℕ → List ℕ
signed negative bytes = if negative then 45 ∷ bytes else bytes

-- What a number means, behind a minus or not: a small integer, or else its kind with its bytes.
unfoldable pub number_literal : Bool → List ℕ → LiteralTree
number_literal negative bytes =
    if is_whole bytes then (if negative then negative_literal bytes else positive_literal bytes)
    else number Float (signed negative bytes)
