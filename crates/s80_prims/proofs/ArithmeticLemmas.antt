-- Lemmas on the primitives of two SmallIntegers.
use Rattle.std.proofs.Common.{◌≡◌, ◌≢◌, ◌≤◌, ◌<◌, ◌^◌, ◌≤ℤ◌, ◌<ℤ◌, ◌-ℤ◌, ◌*ℤ◌, ⊎_elim, neg_ℤ, ℤ, pos, negsuc, ℕ, zero, suc, ◌+◌, ◌-◌, ◌*◌, ◌/◌, true, false, None, FitsSigned, to_z, of_z, w32, w64, min, refl, sym, ap, subst, ◌∙◌, arith, unsigned_abs}
use Rattle.std.proofs.Math.Nat.{div-eq_of_lt, mul-le-mul, pow-le-pow_right}
use Rattle.std.proofs.lemmas.Int.{ints, to_z-of_z}
use Rattle.std.proofs.lemmas.Bool.{cases_lt}
use Rattle.std.specs.Int.{int_shr}
use lib.Signed.{mag, mag_shr, lt_z, shr_z}
use Rattle.s80_prims.specs.Arithmetic.{divided, exact, floor_quotient, floor_rest, is_zero, ranged, shifted}

small_product : (a b m n : ℕ) → a ≤ m → b ≤ n → a * b ≤ m * n
small_product a b m n p q = mul-le-mul p q

-- a product of two numbers of 32 bits
product_small : (a b : ℤ) → FitsSigned w32 a → neg_ℤ (pos (2 ^ 31)) ≤ℤ b → b ≤ℤ pos (2 ^ 31) → (neg_ℤ (pos (2 ^ 62)) ≤ℤ (a *ℤ b)) × ((a *ℤ b) ≤ℤ pos (2 ^ 62))
product_small (pos a) (pos b) f l g = let p = small_product a b (2 ^ 31) (2 ^ 31) (omega (arith, ints)) (omega (arith, ints)) in (omega (arith, ints), omega (arith, ints))
product_small (pos a) (negsuc b) f l g = let p = small_product a (suc b) (2 ^ 31) (2 ^ 31) (omega (arith, ints)) (omega (arith, ints)) in (omega (arith, ints), omega (arith, ints))
product_small (negsuc a) (pos b) f l g = let p = small_product (suc a) b (2 ^ 31) (2 ^ 31) (omega (arith, ints)) (omega (arith, ints)) in (omega (arith, ints), omega (arith, ints))
product_small (negsuc a) (negsuc b) f l g = let p = small_product (suc a) (suc b) (2 ^ 31) (2 ^ 31) (omega (arith, ints)) (omega (arith, ints)) in (omega (arith, ints), omega (arith, ints))

pub product_fits : (a b : ℤ) → FitsSigned w32 a → neg_ℤ (pos (2 ^ 31)) ≤ℤ b → b ≤ℤ pos (2 ^ 31) → FitsSigned w64 (a *ℤ b)
product_fits a b f l g = between (a *ℤ b) (product_small a b f l g)
  where
    between : (x : ℤ) → (neg_ℤ (pos (2 ^ 62)) ≤ℤ x) × (x ≤ℤ pos (2 ^ 62)) → FitsSigned w64 x
    between x p = let low = p.0 in let high = p.1 in omega (arith, ints)

pub product_is : (a b : ℤ) → FitsSigned w32 a → FitsSigned w32 b → to_z w64 (of_z w64 (to_z w64 (of_z w64 a) *ℤ to_z w64 (of_z w64 b))) ≡ a *ℤ b
product_is a b f g =
    let one : FitsSigned w64 a = omega (arith, ints) in
    let two : FitsSigned w64 b = omega (arith, ints) in
    rw (to_z-of_z w64 a one, to_z-of_z w64 b two) (to_z-of_z w64 _ (product_fits a b f (omega (arith, ints)) (omega (arith, ints))))

-- what is left, computed with 64 bits
pub rest_is : (a b q : ℤ) → FitsSigned w32 a → FitsSigned w32 b → neg_ℤ (pos (2 ^ 31)) ≤ℤ q → q ≤ℤ pos (2 ^ 31)
    → to_z w64 (of_z w64 (to_z w64 (of_z w64 a) -ℤ to_z w64 (of_z w64 (to_z w64 (of_z w64 b) *ℤ to_z w64 (of_z w64 q))))) ≡ a -ℤ b *ℤ q
rest_is a b q f g l h =
    let one : FitsSigned w64 a = omega (arith, ints) in
    let two : FitsSigned w64 b = omega (arith, ints) in
    let three : FitsSigned w64 q = omega (arith, ints) in
    rw (to_z-of_z w64 a one, to_z-of_z w64 b two, to_z-of_z w64 q three, to_z-of_z w64 (b *ℤ q) (product_fits b q g l h))
    (to_z-of_z w64 _ (apart (b *ℤ q) (product_small b q g l h)))
  where
    apart : (x : ℤ) → (neg_ℤ (pos (2 ^ 62)) ≤ℤ x) × (x ≤ℤ pos (2 ^ 62)) → FitsSigned w64 (a -ℤ x)
    apart x p = let low = p.0 in let high = p.1 in omega (arith, ints)

not_zero : (b : ℤ) → b ≢ pos 0 → is_zero b ≡ false
not_zero (pos zero) n = absurd (n refl)
not_zero (pos (suc b)) n = grind arith
not_zero (negsuc b) n = refl

pub exact_is : (a b q r : ℤ) → b ≢ pos 0 → r ≡ floor_rest a b → r ≡ pos 0 → q ≡ floor_quotient a b → ranged q ≡ divided exact a b
exact_is a b q r n e z f = rw (not_zero b n, ap is_zero (sym e ∙ z)) (ap ranged f)

-- a shift by 31 to the right leaves the sign alone, and so does one by more
none_left : (a n : ℕ) → a < 2 ^ 31 → 31 ≤ n → a / 2 ^ n ≡ 0
none_left a n f e = let more : 2 ^ 31 ≤ 2 ^ n = pow-le-pow_right (omega arith) e in div-eq_of_lt (omega arith)

same_left : (a k n : ℕ) → a < 2 ^ 31 → k ≡ min n 31 → a / 2 ^ k ≡ a / 2 ^ n
same_left a k n f e = ⊎_elim
    (λ l. let is : k ≡ n = omega arith in ap (λ k. a / 2 ^ k) is)
    (λ l. let is : k ≡ 31 = omega arith in none_left a k f (omega arith) ∙ sym (none_left a n f l))
    (cases_lt n 31)

shr_same : (a : ℤ) (k n : ℕ) → FitsSigned w32 a → k ≡ min n 31 → int_shr a k ≡ int_shr a n
shr_same (pos a) k n f e = ap pos (same_left a k n (omega (arith, ints)) e)
shr_same (negsuc a) k n f e = ap negsuc (same_left a k n (omega (arith, ints)) e)

pub right_is : (a by : ℤ) (k : ℕ) → FitsSigned w32 a → by <ℤ pos 0 → k ≡ min (unsigned_abs by) 31 → ranged (int_shr a k) ≡ shifted a by
right_is a (pos n) k f l e = absurd (omega (arith, ints))
right_is a (negsuc n) k f l e = ap ranged (shr_same a k (suc n) f e)

above : (n : ℕ) → 2 ^ 30 ≤ n → None ≡ ranged (pos n)
above n h = grind (arith, ints)

below : (n : ℕ) → 2 ^ 30 ≤ n → None ≡ ranged (negsuc n)
below n h = grind (arith, ints)

far_power : (a n : ℕ) → 30 < n → 2 ^ 30 + 1 ≤ suc a * 2 ^ n
far_power a n l =
    let more : 2 ^ 31 ≤ 2 ^ n = pow-le-pow_right (omega arith) l in
    let times = small_product 1 (2 ^ n) (suc a) (2 ^ n) (omega arith) (omega arith) in
    omega arith

-- a shift to the left by more than 30
pub far_is : (a by : ℤ) → a ≢ pos 0 → pos 30 <ℤ by → None ≡ shifted a by
far_is a (negsuc n) z l = absurd (omega (arith, ints))
far_is (pos zero) (pos n) z l = absurd (z refl)
far_is (pos (suc a)) (pos n) z l = above (suc a * 2 ^ n) (omega (arith, far_power a n (omega (arith, ints))))
far_is (negsuc a) (pos n) z l =
    let more = far_power a n (omega (arith, ints)) in
    let is : negsuc (suc a * 2 ^ n - 1) ≡ negsuc a *ℤ pos (2 ^ n) = omega (arith, ints) in
    below (suc a * 2 ^ n - 1) (omega (arith, more)) ∙ ap ranged is

-- a power of 2 up to 2^30
pub power_fits : (a : ℤ) (e : ℕ) → FitsSigned w32 a → e ≤ 30 → FitsSigned w64 (a *ℤ pos (2 ^ e))
power_fits a e f l = let small : 2 ^ e ≤ 2 ^ 30 = pow-le-pow_right (omega arith) l in product_fits a (pos (2 ^ e)) f (omega (arith, ints)) (omega (arith, ints))

-- ---- numbers as the code has them

abbrev pub back : ℤ → ℤ
back z = to_z w32 (of_z w32 z)

abbrev pub wide : ℤ → ℤ
wide z = to_z w64 (of_z w64 z)

both : {X : Type 0} (go : ℤ → ℤ → X) (a b : ℤ) → FitsSigned w32 a → FitsSigned w32 b → go (back a) (back b) ≡ go a b
both go a b f g = λ i. go (to_z-of_z w32 a f i) (to_z-of_z w32 b g i)

pub product_of : (a b x y : ℤ) → FitsSigned w32 a → FitsSigned w32 b → x ≡ back a → y ≡ back b → wide (wide x *ℤ wide y) ≡ a *ℤ b
product_of a b x y f g e h = ap (λ x. wide (wide x *ℤ wide y)) (e ∙ to_z-of_z w32 a f) ∙ ap (λ y. wide (wide a *ℤ wide y)) (h ∙ to_z-of_z w32 b g) ∙ product_is a b f g

pub rest_of : (a b x y q : ℤ) → FitsSigned w32 a → FitsSigned w32 b → x ≡ back a → y ≡ back b → q ≡ floor_quotient (back a) (back b)
    → neg_ℤ (pos (2 ^ 31)) ≤ℤ q → q ≤ℤ pos (2 ^ 31) → wide (wide x -ℤ wide (wide y *ℤ wide q)) ≡ floor_rest a b
rest_of a b x y q f g e h is l m =
    ap (λ x. wide (wide x -ℤ wide (wide y *ℤ wide q))) (e ∙ to_z-of_z w32 a f)
    ∙ ap (λ y. wide (wide a -ℤ wide (wide y *ℤ wide q))) (h ∙ to_z-of_z w32 b g)
    ∙ rest_is a b q f g l m
    ∙ ap (λ q. a -ℤ b *ℤ q) (is ∙ both floor_quotient a b f g)

pub exact_of : (a b q r : ℤ) → FitsSigned w32 a → FitsSigned w32 b → FitsSigned w64 r → neg_ℤ (pos (2 ^ 31)) ≤ℤ q → q ≤ℤ pos (2 ^ 31)
    → ¬ (of_z w32 b ≡ 0) → r ≡ floor_rest (back a) (back b) → of_z w64 r ≡ 0 → q ≡ floor_quotient (back a) (back b) → ranged (wide q) ≡ divided exact a b
exact_of a b q r f g fits l m n e z is =
    let three : FitsSigned w64 q = omega (arith, ints) in
    ap ranged (to_z-of_z w64 q three)
    ∙ exact_is a b q r (λ b. n (ap (of_z w32) b)) (e ∙ both floor_rest a b f g) (sym (to_z-of_z w64 r fits) ∙ ap (to_z w64) z) (is ∙ both floor_quotient a b f g)

pub right_of : (a by x : ℤ) (u k : ℕ) → FitsSigned w32 a → FitsSigned w32 by → lt_z (back by) (pos 0) ≡ true → u ≡ unsigned_abs (back by) → k ≡ min u 31
    → x ≡ back (shr_z (back a) (2 ^ k)) → ranged (wide x) ≡ shifted a by
right_of a by x u k f g l e h is =
    let less : mag (int_shr a k) ≤ mag a = mag_shr a (2 ^ k) in
    let fits : FitsSigned w32 (int_shr a k) = record { sfits = omega (arith, less, f.sfits) } in
    let also : FitsSigned w64 (int_shr a k) = omega (arith, ints) in
    let same : x ≡ int_shr a k = is ∙ ap (λ a. back (shr_z a (2 ^ k))) (to_z-of_z w32 a f) ∙ to_z-of_z w32 (int_shr a k) fits in
    let less_than : by <ℤ pos 0 = omega (arith, ints) in
    ap (λ x. ranged (wide x)) same ∙ ap ranged (to_z-of_z w64 (int_shr a k) also)
    ∙ right_is a by k f less_than (h ∙ ap (λ u. min u 31) (e ∙ ap unsigned_abs (to_z-of_z w32 by g)))

pub far_of : (a by : ℤ) → FitsSigned w32 by → ¬ (of_z w32 a ≡ 0) → lt_z (pos 30) (back by) ≡ true → None ≡ shifted a by
far_of a by g z l = far_is a by (λ a. z (ap (of_z w32) a)) (omega (arith, ints))

power_of : (by : ℤ) (p : ℤ) → FitsSigned w32 by → p ≡ pos (2 ^ unsigned_abs (back by)) → p ≡ pos (2 ^ unsigned_abs by)
power_of by p g e = e ∙ ap (λ by. pos (2 ^ unsigned_abs by)) (to_z-of_z w32 by g)

factors : (a by x p : ℤ) → FitsSigned w32 a → FitsSigned w32 by → unsigned_abs by ≤ 30 → x ≡ back a → p ≡ pos (2 ^ unsigned_abs (back by))
    → wide x *ℤ wide p ≡ a *ℤ pos (2 ^ unsigned_abs by)
factors a by x p f g l e h =
    let small : 2 ^ unsigned_abs by ≤ 2 ^ 30 = pow-le-pow_right (omega arith) l in
    let one : FitsSigned w64 a = omega (arith, ints) in
    let two : FitsSigned w64 (pos (2 ^ unsigned_abs by)) = omega (arith, ints) in
    ap (λ x. wide x *ℤ wide p) (e ∙ to_z-of_z w32 a f) ∙ ap (λ a. a *ℤ wide p) (to_z-of_z w64 a one)
    ∙ ap (λ p. a *ℤ wide p) (power_of by p g h) ∙ ap (λ p. a *ℤ p) (to_z-of_z w64 _ two)

short : (by : ℤ) → FitsSigned w32 by → lt_z (back by) (pos 0) ≡ false → lt_z (pos 30) (back by) ≡ false → unsigned_abs by ≤ 30
short by g l m = omega (arith, ints)

pub left_fits : (a by x p : ℤ) → FitsSigned w32 a → FitsSigned w32 by → lt_z (back by) (pos 0) ≡ false → lt_z (pos 30) (back by) ≡ false → x ≡ back a
    → p ≡ pos (2 ^ unsigned_abs (back by)) → FitsSigned w64 (wide x *ℤ wide p)
left_fits a by x p f g l m e h = subst (FitsSigned w64) (sym (factors a by x p f g (short by g l m) e h)) (power_fits a (unsigned_abs by) f (short by g l m))

upward : (a by : ℤ) → pos 0 ≤ℤ by → ranged (a *ℤ pos (2 ^ unsigned_abs by)) ≡ shifted a by
upward a (pos n) l = refl
upward a (negsuc n) l = absurd (omega (arith, ints))

pub left_of : (a by x p : ℤ) → FitsSigned w32 a → FitsSigned w32 by → lt_z (back by) (pos 0) ≡ false → lt_z (pos 30) (back by) ≡ false → x ≡ back a
    → p ≡ pos (2 ^ unsigned_abs (back by)) → ranged (wide (wide x *ℤ wide p)) ≡ shifted a by
left_of a by x p f g l m e h =
    ap ranged (to_z-of_z w64 _ (left_fits a by x p f g l m e h)) ∙ ap ranged (factors a by x p f g (short by g l m) e h) ∙ upward a by (omega (arith, ints))
