-- Lists that grow at the end, and arrays of which one element is set.
use Rattle.std.proofs.Common.{◌≡◌, ◌≢◌, ◌∙◌, ap, sym, subst, refl, ℕ, zero, suc, ◌+◌, ◌<◌, ◌≤◌, ◌⊎◌, inl, inr, List, [], ◌∷◌, ◌++◌, Option, Some, None, length, slice_get, set, replicate, arith}
use Rattle.s80_code.proofs.lemmas.TableLemmas.{value}
use Rattle.s80_verify.specs.Found.{held, blanks}

pub same_or_not : (m n : ℕ) → (m ≡ n) ⊎ (m ≢ n)
same_or_not zero zero = inl refl
same_or_not zero (suc n) = inr (λ e. omega (arith, e))
same_or_not (suc m) zero = inr (λ e. omega (arith, e))
same_or_not (suc m) (suc n) = elim (same_or_not m n) [ inl e ↦ inl (ap suc e) | inr d ↦ inr (λ e. d (omega (arith, e))) ]

pub get_front : {A : Type 0} (xs ys : List A) (k : ℕ) (x : A) → slice_get xs k ≡ Some x → slice_get (xs ++ ys) k ≡ Some x
get_front [] ys k x e = cc
get_front (a ∷ xs) ys zero x e = e
get_front (a ∷ xs) ys (suc k) x e = get_front xs ys k x e

pub get_last : {A : Type 0} (xs : List A) (x : A) → slice_get (xs ++ x ∷ []) (length xs) ≡ Some x
get_last [] x = refl
get_last (a ∷ xs) x = get_last xs x

pub get_either : {A : Type 0} (xs : List A) (x : A) (k : ℕ) (y : A) → slice_get (xs ++ x ∷ []) k ≡ Some y → (slice_get xs k ≡ Some y) ⊎ (x ≡ y)
get_either [] x zero y e = inr (value e)
get_either [] x (suc k) y e = cc
get_either (a ∷ xs) x zero y e = inl e
get_either (a ∷ xs) x (suc k) y e = get_either xs x k y e

pub get_below : {A : Type 0} (xs : List A) (k n : ℕ) (x : A) → slice_get xs n ≡ Some x → k < n → (y : A) × (slice_get xs k ≡ Some y)
get_below [] k n x e h = cc
get_below (a ∷ xs) zero n x e h = (a, refl)
get_below (a ∷ xs) (suc k) zero x e h = absurd (omega arith)
get_below (a ∷ xs) (suc k) (suc n) x e h = get_below xs k n x e (omega arith)

pub get_past : {A : Type 0} (xs : List A) (k n : ℕ) (x : A) → slice_get xs n ≡ None → slice_get xs k ≡ Some x → k < n
get_past [] k n x none e = cc
get_past (a ∷ xs) k zero x none e = cc
get_past (a ∷ xs) zero (suc n) x none e = omega arith
get_past (a ∷ xs) (suc k) (suc n) x none e = omega (arith, get_past xs k n x none e)

pub get_within : {A : Type 0} (xs : List A) (k : ℕ) (x : A) → slice_get xs k ≡ Some x → k < length xs
get_within [] k x e = cc
get_within (a ∷ xs) zero x e = omega arith
get_within (a ∷ xs) (suc k) x e = omega (arith, get_within xs k x e)

pub set_here : {A : Type 0} (xs : List A) (k : ℕ) (x : A) → k < length xs → slice_get (set xs k x) k ≡ Some x
set_here [] k x h = absurd (omega arith)
set_here (a ∷ xs) zero x h = refl
set_here (a ∷ xs) (suc k) x h = set_here xs k x (omega arith)

pub set_there : {A : Type 0} (xs : List A) (k j : ℕ) (x : A) → j ≢ k → slice_get (set xs k x) j ≡ slice_get xs j
set_there [] k j x h = refl
set_there (a ∷ xs) zero zero x h = absurd (h refl)
set_there (a ∷ xs) zero (suc j) x h = refl
set_there (a ∷ xs) (suc k) zero x h = refl
set_there (a ∷ xs) (suc k) (suc j) x h = set_there xs k j x (λ e. h (ap suc e))

pub fewer_blanks : (xs : List (Option ℕ)) (k d : ℕ) → k < length xs → held (slice_get xs k) ≡ None → blanks (set xs k (Some d)) + 1 ≡ blanks xs
fewer_blanks [] k d h e = absurd (omega arith)
fewer_blanks (None ∷ xs) zero d h e = omega arith
fewer_blanks (Some a ∷ xs) zero d h e = cc
fewer_blanks (None ∷ xs) (suc k) d h e = omega (arith, fewer_blanks xs k d (omega arith) e)
fewer_blanks (Some a ∷ xs) (suc k) d h e = fewer_blanks xs k d (omega arith) e

pub all_blank : (n : ℕ) → blanks (replicate n None) ≡ n
all_blank zero = refl
all_blank (suc n) = ap suc (all_blank n)

pub nothing_held : (n k : ℕ) → held (slice_get (replicate {A = Option ℕ} n None) k) ≡ None
nothing_held zero k = refl
nothing_held (suc n) zero = refl
nothing_held (suc n) (suc k) = nothing_held n k

pub nothing_set : {A : Type 0} (x : A) (n k : ℕ) (y : A) → slice_get (replicate n x) k ≡ Some y → x ≡ y
nothing_set x zero k y e = cc
nothing_set x (suc n) zero y e = value e
nothing_set x (suc n) (suc k) y e = nothing_set x n k y e

pub replicate_long : {A : Type 0} (x : A) (n : ℕ) → length (replicate n x) ≡ n
replicate_long x zero = refl
replicate_long x (suc n) = ap suc (replicate_long x n)

pub set_long : {A : Type 0} (xs : List A) (k : ℕ) (x : A) → length (set xs k x) ≡ length xs
set_long [] k x = refl
set_long (a ∷ xs) zero x = refl
set_long (a ∷ xs) (suc k) x = ap suc (set_long xs k x)
