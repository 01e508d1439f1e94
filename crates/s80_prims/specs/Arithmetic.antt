-- The primitives of two SmallIntegers (Blue Book, part four).
use Rattle.std.specs.Prelude.{ℕ, suc, ◌^◌, ℤ, pos, negsuc, ◌+ℤ◌, ◌-ℤ◌, ◌*ℤ◌, neg_ℤ, ◌==◌, List, [], ◌∷◌, Bool, true, false, not, ◌&&◌, Option, Some, None, find, option_and_then, if◌then◌else◌}
use Rattle.std.specs.Int.{w32, int_div_euclid, int_bit_and, int_bit_or, int_bit_xor, int_shr, is_negative}
use Rattle.s80_object.specs.declared.value.Value.{Value}
use Rattle.s80_object.specs.declared.value.Value.TheVariants.{Small, True, False}

abbrev pub is_less : ℤ → ℤ → Bool
is_less a b = is_negative (a -ℤ b)

-- SmallIntegers go from -2^30 to 2^30 - 1
abbrev pub ranged : ℤ → Option Value
ranged n = if not (is_less n (neg_ℤ (pos (2 ^ 30)))) && is_less n (pos (2 ^ 30)) then Some (Small n) else None

abbrev pub truth : Bool → Value
truth true = True
truth false = False

abbrev pub is_zero : ℤ → Bool
is_zero (pos n) = n == 0
is_zero (negsuc n) = false

-- the quotient, rounded towards minus infinity
abbrev pub floor_quotient : ℤ → ℤ → ℤ
floor_quotient a (pos n) = int_div_euclid a (pos n)
floor_quotient a (negsuc n) = int_div_euclid (neg_ℤ a) (pos (suc n))

-- what is left of the dividend
abbrev pub floor_rest : ℤ → ℤ → ℤ
floor_rest a b = a -ℤ b *ℤ floor_quotient a b

-- none by zero
abbrev pub divided : (ℤ → ℤ → Option Value) → ℤ → ℤ → Option Value
divided f a b = if is_zero b then None else f a b

-- the quotient where nothing is left
abbrev pub exact : ℤ → ℤ → Option Value
exact a b = if is_zero (floor_rest a b) then ranged (floor_quotient a b) else None

-- times 2 to a power, or the quotient by it towards minus infinity
abbrev pub shifted : ℤ → ℤ → Option Value
shifted a (pos n) = ranged (a *ℤ pos (2 ^ n))
shifted a (negsuc n) = ranged (int_shr a (suc n))

pub record Row : Type 0 where
  pub number : ℕ
  pub answer : ℤ → ℤ → Option Value

abbrev pub row : ℕ → (ℤ → ℤ → Option Value) → Row
row number answer = record { number = number; answer = answer }

-- < > <= >= = ~= are 3 to 8; 10 is the exact quotient, 11 and 12 are \\ and //, 14 to 16 and, or, exclusive or of the bits
abbrev pub rows : List Row
rows =
    row 1 (λ a b. ranged (a +ℤ b))
    ∷ row 2 (λ a b. ranged (a -ℤ b))
    ∷ row 3 (λ a b. Some (truth (is_less a b)))
    ∷ row 4 (λ a b. Some (truth (is_less b a)))
    ∷ row 5 (λ a b. Some (truth (not (is_less b a))))
    ∷ row 6 (λ a b. Some (truth (not (is_less a b))))
    ∷ row 7 (λ a b. Some (truth (is_zero (a -ℤ b))))
    ∷ row 8 (λ a b. Some (truth (not (is_zero (a -ℤ b)))))
    ∷ row 9 (λ a b. ranged (a *ℤ b))
    ∷ row 10 (divided exact)
    ∷ row 11 (divided (λ a b. ranged (floor_rest a b)))
    ∷ row 12 (divided (λ a b. ranged (floor_quotient a b)))
    ∷ row 14 (λ a b. ranged (int_bit_and w32 a b))
    ∷ row 15 (λ a b. ranged (int_bit_or w32 a b))
    ∷ row 16 (λ a b. ranged (int_bit_xor w32 a b))
    ∷ row 17 shifted
    ∷ []

-- the answer of a primitive, where there is one
abbrev pub arithmetic : ℕ → ℤ → ℤ → Option Value
arithmetic n a b = option_and_then (λ r. r.answer a b) (find (λ r. r.number == n) rows)
