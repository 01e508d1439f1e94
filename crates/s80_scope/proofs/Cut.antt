-- Counts that are cut off at the end of their type.
use Rattle.std.proofs.Common.{◌≡◌, ℕ, ◌+◌, ◌*◌, max, ◌∙◌, refl, arith}
use Rattle.s80_scope.specs.declared.fit.counts.Counts.{Counts}
use Rattle.s80_scope.specs.Walk.{cut, cut_off, both, none, heavier, above, at_least, block_counts, declaring}

pub same_counts : {a b : Counts} → a.here ≡ b.here → a.inside ≡ b.inside → a.parameters ≡ b.parameters → a.weight ≡ b.weight → a ≡ b
same_counts p q r s = λ i. record { here = p i; inside = q i; parameters = r i; weight = s i }

cut_again : (a : ℕ) → cut (cut a) ≡ cut a
cut_again a = omega arith

cut_max : (a b : ℕ) → cut (max (cut a) (cut b)) ≡ cut (max a b)
cut_max a b = omega arith

cut_sum : (a b : ℕ) → cut (cut a + cut b) ≡ cut (a + b)
cut_sum a b = omega arith

cut_left : (a b : ℕ) → cut (cut a + b) ≡ cut (a + b)
cut_left a b = omega arith

cut_right : (a b : ℕ) → cut (a + cut b) ≡ cut (a + b)
cut_right a b = omega arith

cut_max_left : (a b : ℕ) → cut (max (cut a) b) ≡ cut (max a b)
cut_max_left a b = omega arith

cut_block : (a n b : ℕ) → cut (max (max (cut a) (max n 1)) (cut b)) ≡ cut (max (max a (max n 1)) b)
cut_block a n b = omega arith

cut_six : (a n : ℕ) → cut (cut a + 6 + 2 * n) ≡ cut (a + 6 + 2 * n)
cut_six a n = omega arith

-- each step on counts that are cut off is the cut of the step on exact ones
pub joined : {a b : Counts} (x y : Counts) → a ≡ cut_off x → b ≡ cut_off y → cut_off (both a b) ≡ cut_off (both x y)
joined x y p q =
    (λ i. cut_off (both (p i) (q i)))
    ∙ same_counts (cut_max x.here y.here) (cut_max x.inside y.inside) (cut_sum x.parameters y.parameters) (cut_sum x.weight y.weight)

pub weighed : {a : Counts} (n : ℕ) (x : Counts) → a ≡ cut_off x → cut_off (heavier n a) ≡ cut_off (heavier n x)
weighed n x p =
    (λ i. cut_off (heavier n (p i)))
    ∙ same_counts (cut_again x.here) (cut_again x.inside) (cut_again x.parameters) (cut_left x.weight n)

pub raised : {a : Counts} (n : ℕ) (x : Counts) → a ≡ cut_off x → cut_off (above n a) ≡ cut_off (above n x)
raised n x p =
    (λ i. cut_off (above n (p i)))
    ∙ same_counts (cut_right n x.here) (cut_again x.inside) (cut_again x.parameters) (cut_again x.weight)

-- with a number of values that is cut off too
pub raised_cut : {a : Counts} (k n : ℕ) (x : Counts) → k ≡ cut n → a ≡ cut_off x → cut_off (above k a) ≡ cut_off (above n x)
raised_cut k n x e p =
    (λ i. cut_off (above (e i) (p i)))
    ∙ same_counts (cut_sum n x.here) (cut_again x.inside) (cut_again x.parameters) (cut_again x.weight)

pub bounded : {a : Counts} (n : ℕ) (x : Counts) → a ≡ cut_off x → cut_off (at_least n a) ≡ cut_off (at_least n x)
bounded n x p =
    (λ i. cut_off (at_least n (p i)))
    ∙ same_counts (cut_max_left x.here n) (cut_max_left x.inside 0) (cut_again x.parameters) (cut_again x.weight)

pub blocked : {a : Counts} (n : ℕ) (x : Counts) → a ≡ cut_off x → cut_off (block_counts n a) ≡ cut_off (block_counts n x)
blocked n x p =
    (λ i. cut_off (block_counts n (p i)))
    ∙ same_counts refl (cut_block x.here n x.inside) (cut_left x.parameters n) (cut_six x.weight n)

pub declared : {a : Counts} (n : ℕ) (x : Counts) → a ≡ cut_off x → cut_off (declaring n a) ≡ cut_off (declaring n x)
declared n x p =
    (λ i. cut_off (declaring n (p i)))
    ∙ same_counts (cut_again x.here) (cut_again x.inside) (cut_left x.parameters n) (cut_again x.weight)

-- ---- parts on one stack

pub both_none : (x : Counts) → both x none ≡ x
both_none x = same_counts (omega arith) (omega arith) (omega arith) (omega arith)

pub none_both : (x : Counts) → both none x ≡ x
none_both x = same_counts (omega arith) (omega arith) (omega arith) (omega arith)

pub both_assoc : (x y z : Counts) → both (both x y) z ≡ both x (both y z)
both_assoc x y z = same_counts (omega arith) (omega arith) (omega arith) (omega arith)
