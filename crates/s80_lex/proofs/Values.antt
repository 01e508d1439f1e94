-- The values of digits and numbers, as they are computed.
use Rattle.std.proofs.Common.{◌≡◌, ℕ, ◌+◌, ◌-◌, ◌*◌, ◌^◌, ◌≤◌, ◌<◌, List, [], ◌∷◌, Bool, true, false, ◌||◌, ◌==◌, nat_lt, inl, inr, min, take, length, get_or, refl, ap, sym, ◌∙◌, arith}
use Rattle.std.specs.Char.{digit_value}
use Rattle.std.specs.Str.Parse.{digits_value}
use Rattle.std.proofs.lemmas.Int.Digits.{digits_value_more}
use Rattle.std.proofs.lemmas.Bool.{and_parts, and_from, or_cases, or_left, or_right, eqb-true, eqb-false, ltb-true, lt-ltb}
use Rattle.s80_lex.specs.Front.{are_below}
use Rattle.s80_lex.specs.Number.{radix_of, digits_of, exponent_of, whole_value, IsLawfulNumber, AreBelow}
use Rattle.s80_lex.proofs.Capped.{cap_both, cap_digit, cap_power, power_some}

pub value_step : (radix i value product digit total : ℕ) (bytes : List ℕ) → 0 < radix → i < length bytes → value ≡ min (digits_value radix (take i bytes)) (2 ^ 64 - 1) → product ≡ min (value * radix) (2 ^ 64 - 1) → digit ≡ digit_value (get_or bytes i 0) → total ≡ min (product + digit) (2 ^ 64 - 1) → total ≡ min (digits_value radix (take (i + 1) bytes)) (2 ^ 64 - 1)
value_step radix i value product digit total bytes some lt v p d t =
    t ∙ ap (λ x. min (x + digit) (2 ^ 64 - 1)) (p ∙ ap (λ x. min (x * radix) (2 ^ 64 - 1)) v)
    ∙ ap (λ x. min (min (min (digits_value radix (take i bytes)) (2 ^ 64 - 1) * radix) (2 ^ 64 - 1) + x) (2 ^ 64 - 1)) d
    ∙ cap_digit (digits_value radix (take i bytes)) radix (digit_value (get_or bytes i 0)) (2 ^ 64 - 1) some
    ∙ ap (λ x. min x (2 ^ 64 - 1)) (sym (digits_value_more radix bytes i lt))

pub value_whole : (radix long exponent digits power product : ℕ) (bytes : List ℕ) → IsLawfulNumber bytes → radix ≡ min (radix_of bytes) (2 ^ 64 - 1) → long ≡ min (exponent_of bytes) (2 ^ 64 - 1) → exponent ≡ min long 64 → digits ≡ min (digits_value radix (digits_of bytes)) (2 ^ 64 - 1) → power ≡ min (radix ^ exponent) (2 ^ 64 - 1) → product ≡ min (digits * power) (2 ^ 64 - 1) → product ≡ min (whole_value bytes) (2 ^ 64 - 1)
value_whole radix long exponent digits power product bytes lawful r l e d p t =
    let to : radix_of bytes ≤ 36 = lawful.radix_to in
    let exact : radix ≡ radix_of bytes = omega arith in
    let short : exponent ≡ min (exponent_of bytes) 64 = omega arith in
    let raised : power ≡ min (radix_of bytes ^ exponent_of bytes) (2 ^ 64 - 1) =
    p ∙ ap (λ x. min (x ^ exponent) (2 ^ 64 - 1)) exact ∙ ap (λ x. min (radix_of bytes ^ x) (2 ^ 64 - 1)) short ∙ cap_power (radix_of bytes) (exponent_of bytes) lawful.radix_from in
    let valued : digits ≡ min (digits_value (radix_of bytes) (digits_of bytes)) (2 ^ 64 - 1) = d ∙ ap (λ x. min (digits_value x (digits_of bytes)) (2 ^ 64 - 1)) exact in
    t ∙ ap (λ x. min (x * power) (2 ^ 64 - 1)) valued ∙ ap (λ x. min (min (digits_value (radix_of bytes) (digits_of bytes)) (2 ^ 64 - 1) * x) (2 ^ 64 - 1)) raised
    ∙ cap_both (digits_value (radix_of bytes) (digits_of bytes)) (radix_of bytes ^ exponent_of bytes) (2 ^ 64 - 1) (omega arith) (power_some (radix_of bytes) (exponent_of bytes) lawful.radix_from)

-- the test of the digits
below_from : (radix : ℕ) (digits : List ℕ) → are_below radix digits ≡ true → AreBelow radix digits
below_from radix [] e = tt
below_from radix (b ∷ digits) e =
    let parts = and_parts (b == 46 || nat_lt (digit_value b) radix) (are_below radix digits) e in (
      λ apart. elim (or_cases (b == 46) (nat_lt (digit_value b) radix) parts.0) [
        | inl same ↦ absurd (apart (eqb-true b 46 same))
        | inr below ↦ ltb-true (digit_value b) radix below
      ],
      below_from radix digits parts.1,
    )

below_to : (radix : ℕ) (digits : List ℕ) → AreBelow radix digits → are_below radix digits ≡ true
below_to radix [] h = refl
below_to radix (b ∷ digits) h = and_from (b == 46 || nat_lt (digit_value b) radix) (are_below radix digits) (by_mark (b == 46) refl) (below_to radix digits h.1)
  where
    by_mark : (t : Bool) → (b == 46) ≡ t → (b == 46 || nat_lt (digit_value b) radix) ≡ true
    by_mark true e = or_left (b == 46) (nat_lt (digit_value b) radix) e
    by_mark false e = or_right (b == 46) (nat_lt (digit_value b) radix) (lt-ltb (digit_value b) radix (h.0 (eqb-false b 46 e)))

pub lawful_test : (radix : ℕ) (below : Bool) (bytes digits : List ℕ) → 2 ≤ radix → radix ≤ 36 → radix ≡ min (radix_of bytes) (2 ^ 64 - 1) → digits ≡ digits_of bytes → below ≡ are_below radix digits → (below ≡ true → IsLawfulNumber bytes) × (IsLawfulNumber bytes → below ≡ true)
lawful_test radix below bytes digits from to r d t =
    let exact : radix ≡ radix_of bytes = omega arith in
    let test : below ≡ are_below (radix_of bytes) (digits_of bytes) = t ∙ ap (λ x. are_below x digits) exact ∙ ap (are_below (radix_of bytes)) d in (
      λ e. record { radix_from = omega arith; radix_to = omega arith; digits = below_from (radix_of bytes) (digits_of bytes) (sym test ∙ e) },
      λ h. test ∙ below_to (radix_of bytes) (digits_of bytes) h.digits,
    )
