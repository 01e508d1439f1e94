-- Numbers that stop at a largest one.
use Rattle.std.proofs.Common.{◌≡◌, ℕ, zero, suc, ◌+◌, ◌-◌, ◌*◌, ◌^◌, ◌≤◌, ◌<◌, min, ap, ◌∙◌, arith, inl, inr}
use Rattle.std.proofs.Math.Nat.{le-mul_of_pos_right, pow-le-pow_left, pow-le-pow_right, one-le-pow, mul_comm}
use Rattle.std.proofs.lemmas.Bool.{cases_lt}

cap_add : (a d m : ℕ) → min (min a m + d) m ≡ min (a + d) m
cap_add a d m = omega arith

-- a product of what was capped
cap_left : (v p m : ℕ) → 0 < p → min (min v m * p) m ≡ min (v * p) m
cap_left v p m some = elim (cases_lt m v) [
  | inl above ↦ (let capped : min v m ≡ m = omega arith in
      let first : m ≤ m * p = le-mul_of_pos_right m some in
      let second : v ≤ v * p = le-mul_of_pos_right v some in
      ap (λ x. min (x * p) m) capped ∙ (let e : min (m * p) m ≡ min (v * p) m = omega arith in e))
  | inr within ↦ (let same : min v m ≡ v = omega arith in ap (λ x. min (x * p) m) same)
]

cap_large : (v p m : ℕ) → 0 < m → m < p → min (v * m) m ≡ min (v * p) m
cap_large zero p m some large = omega arith
cap_large (suc v) p m some large =
    let first : m ≤ suc v * m = rw mul_comm (le-mul_of_pos_right m (omega arith)) in
    let second : p ≤ suc v * p = rw mul_comm (le-mul_of_pos_right p (omega arith)) in
    omega arith

pub cap_both : (v p m : ℕ) → 0 < m → 0 < p → min (min v m * min p m) m ≡ min (v * p) m
cap_both v p m large some = elim (cases_lt m p) [
  | inl above ↦ (let capped : min p m ≡ m = omega arith in ap (λ x. min (min v m * x) m) capped ∙ cap_left v m m large ∙ cap_large v p m large above)
  | inr within ↦ (let same : min p m ≡ p = omega arith in ap (λ x. min (min v m * x) m) same ∙ cap_left v p m some)
]

-- one digit more
pub cap_digit : (v r d m : ℕ) → 0 < r → min (min (min v m * r) m + d) m ≡ min (v * r + d) m
cap_digit v r d m some = ap (λ x. min (x + d) m) (cap_left v r m some) ∙ cap_add (v * r) d m

-- a power from the 64th on doesn't fit
pub cap_power : (r e : ℕ) → 2 ≤ r → min (r ^ min e 64) (2 ^ 64 - 1) ≡ min (r ^ e) (2 ^ 64 - 1)
cap_power r e two = elim (cases_lt 64 e) [
  | inl above ↦ (let capped : min e 64 ≡ 64 = omega arith in
      let some : 0 < r = omega arith in
      let large : 2 ^ 64 ≤ r ^ 64 = pow-le-pow_left two 64 in
      let more : r ^ 64 ≤ r ^ e = pow-le-pow_right some (omega arith) in
      ap (λ x. min (r ^ x) (2 ^ 64 - 1)) capped ∙ (let same : min (r ^ 64) (2 ^ 64 - 1) ≡ min (r ^ e) (2 ^ 64 - 1) = omega arith in same))
  | inr within ↦ (let same : min e 64 ≡ e = omega arith in ap (λ x. min (r ^ x) (2 ^ 64 - 1)) same)
]

pub power_some : (r e : ℕ) → 2 ≤ r → 0 < r ^ e
power_some r e two = let some : 0 < r = omega arith in one-le-pow e r some
