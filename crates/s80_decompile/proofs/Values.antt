-- Numbers as tokens: their bytes, and what they mean.
use Rattle.std.proofs.Common.{◌≡◌, ℕ, ℤ, zero, suc, pos, negsuc, neg_ℤ, ◌+◌, ◌*◌, ◌^◌, ◌<◌, ◌≤◌, inl, List, [], ◌∷◌, ◌++◌, Bool, true, false, not, ◌||◌, ◌==◌, cond, if◌then◌else◌, nat_le, nat_lt, decimal, length, refl, ap, sym, ◌∙◌, subst, arith, rules, tests, one-add, take, drop}
use Rattle.std.specs.List.{position_or_len}
use Rattle.std.specs.Char.{is_ascii_digit, digit_value}
use Rattle.std.specs.Str.Parse.{digits_value}
use Rattle.std.proofs.lemmas.Bool.{false≢true, eqb-true}
use Rattle.std.proofs.lemmas.List.{append-nil, take_all, drop_all}
use Rattle.std.proofs.lemmas.Str.Parse.{IsNumeralModel, numerals_by_value}
use Rattle.std.specs.Int.{IsInRange}
use Rattle.std.proofs.lemmas.Bool.Decides.{nat_tests}
use Rattle.std.proofs.lemmas.Fmt.{decimal_is_IsNumeral, digits_decimal, decimal_nonempty}
use Rattle.s80_base.specs.Literal.{LiteralTree, small, number}
use Rattle.s80_base.specs.declared.literal.NumberKind.{NumberKind}
use Rattle.s80_base.specs.declared.literal.NumberKind.TheVariants.{LargePositive, LargeNegative, Float}
use Rattle.s80_lex.specs.Number.{AreBelow, IsLawfulNumber, before, behind, digits_of, exponent_of, has, is_whole, negative_literal, number_literal, positive_literal, radix_of, signed, whole_value}
use Rattle.s80_lex.specs.Spelling.{IsNumber, IsRun, Passes}
use Rattle.s80_decompile.specs.Spellable.{IsSmall, IsSpellableLiteral}

-- ---- the bytes of a number that a literal keeps

abbrev number_bytes : LiteralTree → List ℕ
number_bytes (number k bytes) = bytes
number_bytes _ = []

by_size : (t : Bool) (k j : NumberKind) (z : ℤ) (bytes v : List ℕ) → number k bytes ≡ (if t then small z else number j v) → bytes ≡ v
by_size true k j z bytes v e = absurd (cc)
by_size false k j z bytes v e = ap number_bytes e

by_whole : (t negative : Bool) (k : NumberKind) (bytes word : List ℕ) → number k bytes ≡ (if t then (if negative then negative_literal word else positive_literal word) else number Float (signed negative word)) → bytes ≡ signed negative word
by_whole false negative k bytes word e = ap number_bytes e
by_whole true true k bytes word e = by_size (nat_le (whole_value word) (2 ^ 30)) k LargeNegative (neg_ℤ (pos (whole_value word))) bytes (45 ∷ word) e
by_whole true false k bytes word e = by_size (nat_lt (whole_value word) (2 ^ 30)) k LargePositive (pos (whole_value word)) bytes word e

pub meant_bytes : (negative : Bool) (k : NumberKind) (bytes word : List ℕ) → number k bytes ≡ number_literal negative word → bytes ≡ signed negative word
unfolding number_literal
meant_bytes negative k bytes word e = by_whole (is_whole word) negative k bytes word e

-- ---- decimal digits

run_number : (w : List ℕ) → IsRun is_ascii_digit w → IsNumber w
run_number w h = inl (w, [], [], sym (append-nil (w ++ []) ∙ append-nil w), h, tt, tt)

-- a mark that is no digit doesn't stand among digits
module _ (mark : ℕ) (other : is_ascii_digit mark ≡ false) where
  not_mark : (b : ℕ) → is_ascii_digit b ≡ true → (t : Bool) → (b == mark) ≡ t → t ≡ false
  not_mark b e false i = refl
  not_mark b e true i = absurd (false≢true (sym other ∙ ap is_ascii_digit (sym (eqb-true b mark i)) ∙ e))

  has_none : (w : List ℕ) → Passes is_ascii_digit w → has mark w ≡ false
  has_none [] h = refl
  has_none (b ∷ w) h = ap (λ t. t || has mark w) (not_mark b h.0 (b == mark) refl) ∙ has_none w h.1

  all_before : (w : List ℕ) → Passes is_ascii_digit w → position_or_len (λ b. b == mark) w ≡ length w
  all_before [] h = refl
  all_before (b ∷ w) h = ap (λ t. cond (not t) (1 + position_or_len (λ b. b == mark) w) 0) (not_mark b h.0 (b == mark) refl) ∙ ap (λ n. 1 + n) (all_before w h.1) ∙ one-add (length w)

  before_is : (w : List ℕ) → Passes is_ascii_digit w → before mark w ≡ w
  before_is w h = ap (λ n. take n w) (all_before w h) ∙ take_all (length w) w (omega arith)

  behind_is : (w : List ℕ) → Passes is_ascii_digit w → behind mark w ≡ []
  behind_is w h = ap (λ n. drop (n + 1) w) (all_before w h) ∙ drop_all (length w + 1) w (omega arith)

digit_below : (b : ℕ) → is_ascii_digit b ≡ true → digit_value b < 10
digit_below b e = search (rules, tests)

are_below : (w : List ℕ) → Passes is_ascii_digit w → AreBelow 10 w
are_below [] h = tt
are_below (b ∷ w) h = (λ i. digit_below b h.0, are_below w h.1)

radix_is : (w : List ℕ) → Passes is_ascii_digit w → radix_of w ≡ 10
radix_is w h = ap (λ t. if t then digits_value 10 (before 114 w) else 10) (has_none 114 refl w h)

digits_are : (w : List ℕ) → Passes is_ascii_digit w → digits_of w ≡ w
digits_are w h = ap (λ t. if t then behind 114 (before 101 w) else before 101 w) (has_none 114 refl w h) ∙ before_is 101 refl w h

lawful_digits : (w : List ℕ) → Passes is_ascii_digit w → IsLawfulNumber w
lawful_digits w h =
    let ten : radix_of w ≡ 10 = radix_is w h in
    record {
      radix_from = omega (arith, ten);
      radix_to = omega (arith, ten);
      digits = subst (λ r. AreBelow r (digits_of w)) (sym ten) (subst (AreBelow 10) (sym (digits_are w h)) (are_below w h));
    }

whole_digits : (w : List ℕ) → Passes is_ascii_digit w → is_whole w ≡ true
whole_digits w h = ap (λ t. not (t || has 45 w)) (has_none 46 refl w h) ∙ ap not (has_none 45 refl w h)

value_of_digits : (w : List ℕ) → Passes is_ascii_digit w → whole_value w ≡ digits_value 10 w
value_of_digits w h =
    let none : exponent_of w ≡ 0 = ap (digits_value 10) (behind_is 101 refl w h) in
    let one : 10 ^ exponent_of w ≡ 1 = ap (λ n. 10 ^ n) none in
    ap (λ r. digits_value r (digits_of w) * r ^ exponent_of w) (radix_is w h)
    ∙ ap (λ d. digits_value 10 d * 10 ^ exponent_of w) (digits_are w h)
    ∙ ap (λ n. digits_value 10 w * n) one ∙ times_one (digits_value 10 w)
  where
    times_one : (n : ℕ) → n * 1 ≡ n
    times_one n = omega arith

in_range : (b : ℕ) → is_ascii_digit b ≡ true → IsInRange 48 57 b
in_range b e = search (rules, tests)

from_range : (b : ℕ) → IsInRange 48 57 b → is_ascii_digit b ≡ true
from_range b e = search (rules, tests)

own_digits : IsNumeralModel (Passes is_ascii_digit) (digits_value 10)
own_digits = numerals_by_value (Passes is_ascii_digit) (record { empty = tt; parts = λ c cs h. (in_range c h.0, h.1); more = λ c cs h k. (from_range c h, k) })

-- ---- decimals

pub decimal_passes : (n : ℕ) → n < 2 ^ 64 → Passes is_ascii_digit (decimal n)
decimal_passes n h = digits_decimal own_digits n h

some_digits : (w : List ℕ) → 0 < length w → Passes is_ascii_digit w → IsRun is_ascii_digit w
some_digits [] lt h = absurd (omega arith)
some_digits (b ∷ w) lt h = h

pub decimal_number : (n : ℕ) → n < 2 ^ 64 → IsNumber (decimal n)
decimal_number n h = run_number (decimal n) (some_digits (decimal n) (decimal_nonempty n h) (decimal_passes n h))

pub decimal_lawful : (n : ℕ) → n < 2 ^ 64 → IsLawfulNumber (decimal n)
decimal_lawful n h = lawful_digits (decimal n) (decimal_passes n h)

decimal_value : (n : ℕ) → n < 2 ^ 64 → whole_value (decimal n) ≡ n
decimal_value n h = value_of_digits (decimal n) (decimal_passes n h) ∙ (decimal_is_IsNumeral n h).1

less_test : (n m : ℕ) → n < m → nat_lt n m ≡ true
less_test n m h = grind (arith, nat_tests)

most_test : (n m : ℕ) → n ≤ m → nat_le n m ≡ true
most_test n m h = grind (arith, nat_tests)

pub positive_is : (n : ℕ) → n < 2 ^ 30 → small (pos n) ≡ number_literal false (decimal n)
unfolding number_literal
positive_is n h =
    let w : List ℕ = decimal n in
    let wide : n < 2 ^ 64 = omega arith in
    sym (ap (λ t. if t then positive_literal w else number Float w) (whole_digits w (decimal_passes n wide))
    ∙ ap (λ v. if nat_lt v (2 ^ 30) then small (pos v) else number LargePositive w) (decimal_value n wide)
    ∙ ap (λ t. if t then small (pos n) else number LargePositive w) (less_test n (2 ^ 30) h))

pub negative_is : (n : ℕ) → n < 2 ^ 30 → small (negsuc n) ≡ number_literal true (decimal (suc n))
unfolding number_literal
negative_is n h =
    let w : List ℕ = decimal (suc n) in
    let wide : suc n < 2 ^ 64 = omega arith in
    sym (ap (λ t. if t then negative_literal w else number Float (45 ∷ w)) (whole_digits w (decimal_passes (suc n) wide))
    ∙ ap (λ v. if nat_le v (2 ^ 30) then small (neg_ℤ (pos v)) else number LargeNegative (45 ∷ w)) (decimal_value (suc n) wide)
    ∙ ap (λ t. if t then small (neg_ℤ (pos (suc n))) else number LargeNegative (45 ∷ w)) (most_test (suc n) (2 ^ 30) (omega arith)))

-- ---- what number tokens mean is spellable

abbrev IsNumberForm : LiteralTree → Type 0
IsNumberForm (small z) = IsSmall z
IsNumberForm (number k bytes) = Unit {0}
IsNumberForm _ = ⊥

less_known : (n m : ℕ) → nat_lt n m ≡ true → n < m
less_known n m e = grind (arith, nat_tests)

most_known : (n m : ℕ) → nat_le n m ≡ true → n ≤ m
most_known n m e = grind (arith, nat_tests)

positive_form : (t : Bool) (v : ℕ) (w : List ℕ) → nat_lt v (2 ^ 30) ≡ t → IsNumberForm (if t then small (pos v) else number LargePositive w)
positive_form true v w e = less_known v (2 ^ 30) e
positive_form false v w e = tt

small_negative : (v : ℕ) → v ≤ 2 ^ 30 → IsSmall (neg_ℤ (pos v))
small_negative zero h = omega arith
small_negative (suc v) h = omega arith

negative_form : (t : Bool) (v : ℕ) (w : List ℕ) → nat_le v (2 ^ 30) ≡ t → IsNumberForm (if t then small (neg_ℤ (pos v)) else number LargeNegative w)
negative_form true v w e = small_negative v (most_known v (2 ^ 30) e)
negative_form false v w e = tt

form_by : (t negative : Bool) (w : List ℕ) → IsNumberForm (if t then (if negative then negative_literal w else positive_literal w) else number Float (signed negative w))
form_by false negative w = tt
form_by true true w = negative_form (nat_le (whole_value w) (2 ^ 30)) (whole_value w) (45 ∷ w) refl
form_by true false w = positive_form (nat_lt (whole_value w) (2 ^ 30)) (whole_value w) w refl

number_form : (negative : Bool) (w : List ℕ) → IsNumberForm (number_literal negative w)
unfolding number_literal
number_form negative w = form_by (is_whole w) negative w

pub number_spellable : (inner negative : Bool) (v : LiteralTree) (w : List ℕ) → v ≡ number_literal negative w → IsNumber w → IsLawfulNumber w → IsSpellableLiteral inner v
number_spellable inner negative v w e h k = by_form v e (subst IsNumberForm (sym e) (number_form negative w))
  where
    by_form : (u : LiteralTree) → u ≡ number_literal negative w → IsNumberForm u → IsSpellableLiteral inner u
    by_form (small z) i f = f
    by_form (number j bytes) i f = (negative, w, h, k, i)
    by_form _ i f = absurd f
