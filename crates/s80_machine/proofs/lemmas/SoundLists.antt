-- Lists with an element more, or with one set, and keys by their numbers.
use Rattle.std.proofs.Common.{◌≡◌, ◌∙◌, ap, sym, subst, refl, ℕ, zero, suc, ◌+◌, ◌<◌, ◌⊎◌, inl, inr, ◌==◌, ◌&&◌, ◌||◌, not, cond, List, [], ◌∷◌, ◌++◌, Some, Bool, true, false, length, slice_get, slice_set, All, arith, if◌then◌else◌, true≢false}
use Rattle.std.specs.List.{list_any, position_or_len}
use Rattle.std.specs.Str.{bytes_eq}
use Rattle.std.specs.Cmp.Lexicographic.{bytes_decides}
use Rattle.std.proofs.lemmas.Bool.Decides.{nat_tests}
use Rattle.std.proofs.lemmas.List.Elements.{All-head, All-tail}
use Rattle.s80_base.specs.declared.names.Side.{Side}
use Rattle.s80_base.specs.declared.names.Side.TheVariants.{Instance, Class}
use Rattle.s80_object.specs.Literal.{added_once}
use Rattle.s80_prims.specs.Primitives.{same_side}
use Rattle.s80_code.proofs.lemmas.TableLemmas.{value}
use Rattle.s80_verify.proofs.lemmas.ListLemmas.{get_front}
use Rattle.s80_machine.specs.World.{World, Key, doit, method, same_key, numbered, number_in}

-- ---- what stands at a place

pub got_there : {A : Type 0} (xs : List A) (k : ℕ) → k < length xs → (x : A) × (slice_get xs k ≡ Some x)
got_there [] k h = absurd (omega (arith, h))
got_there (x ∷ xs) zero h = (x, refl)
got_there (x ∷ xs) (suc k) h = got_there xs k (omega (arith, h))

pub all_got : {A : Type 0} (P : A → Type 0) (xs : List A) (k : ℕ) (x : A) → All P xs → slice_get xs k ≡ Some x → P x
all_got P [] k x h e = cc
all_got P (y ∷ ys) zero x h e = subst P (value e) (All-head P y ys h)
all_got P (y ∷ ys) (suc k) x h e = all_got P ys k x (All-tail P y ys h) e

pub set_either : {A : Type 0} (xs : List A) (k j : ℕ) (x y : A) → slice_get (slice_set xs k x) j ≡ Some y → (slice_get xs j ≡ Some y) ⊎ ((j ≡ k) × (x ≡ y))
set_either [] k j x y e = inl e
set_either (z ∷ zs) zero zero x y e = inr (refl, value e)
set_either (z ∷ zs) zero (suc j) x y e = inl e
set_either (z ∷ zs) (suc k) zero x y e = inl e
set_either (z ∷ zs) (suc k) (suc j) x y e = elim (set_either zs k j x y e) [ inl h ↦ inl h | inr h ↦ inr (ap suc h.0, h.1) ]

pub get_either_last : {A : Type 0} (xs : List A) (x : A) (k : ℕ) (y : A) → slice_get (xs ++ x ∷ []) k ≡ Some y → (slice_get xs k ≡ Some y) ⊎ ((k ≡ length xs) × (x ≡ y))
get_either_last [] x zero y e = inr (refl, value e)
get_either_last [] x (suc k) y e = cc
get_either_last (a ∷ xs) x zero y e = inl e
get_either_last (a ∷ xs) x (suc k) y e = elim (get_either_last xs x k y e) [ inl h ↦ inl h | inr h ↦ inr (ap suc h.0, h.1) ]

-- ---- added once

pub either_true : (x y : Bool) → (x || y) ≡ true → (x ≡ true) ⊎ (y ≡ true)
either_true true y e = inl refl
either_true false y e = inr e

pub both_true : (x y : Bool) → (x && y) ≡ true → (x ≡ true) × (y ≡ true)
both_true true y e = (refl, e)
both_true false y e = cc

module _ {X : Type 0} (test : X → Bool) where
  any_last : (x : X) (xs : List X) → test x ≡ true → list_any test (xs ++ x ∷ []) ≡ true
  any_last x [] h = ap (λ b. b || false) h
  any_last x (y ∷ ys) h = either (test y) (any_last x ys h)
    where
      either : (b : Bool) → list_any test (ys ++ x ∷ []) ≡ true → (b || list_any test (ys ++ x ∷ [])) ≡ true
      either true e = refl
      either false e = e

  pub any_once : (x : X) (xs : List X) → test x ≡ true → list_any test (added_once test x xs) ≡ true
  any_once x xs h = go (list_any test xs) refl
    where
      go : (b : Bool) → list_any test xs ≡ b → list_any test (if b then xs else xs ++ x ∷ []) ≡ true
      go true e = e
      go false e = any_last x xs h

  pub found_there : (xs : List X) → list_any test xs ≡ true → (x : X) × (slice_get xs (position_or_len test xs) ≡ Some x) × (test x ≡ true)
  found_there [] h = absurd (true≢false (sym h))
  found_there (y ∷ ys) h = go (test y) refl (found_there ys) h
    where
      go : (b : Bool) → test y ≡ b → (list_any test ys ≡ true → (x : X) × (slice_get ys (position_or_len test ys) ≡ Some x) × (test x ≡ true)) → (b || list_any test ys) ≡ true
          → (x : X) × (slice_get (y ∷ ys) (cond (not b) (1 + position_or_len test ys) 0) ≡ Some x) × (test x ≡ true)
      go true e more h = (y, refl, e)
      go false e more h =
          let r = more h in
          let s : 1 + position_or_len test ys ≡ suc (position_or_len test ys) = omega arith in
          (r.0, ap (slice_get (y ∷ ys)) s ∙ r.1, r.2)

  pub once_front : (x : X) (xs : List X) (k : ℕ) (y : X) → slice_get xs k ≡ Some y → slice_get (added_once test x xs) k ≡ Some y
  once_front x xs k y e = go (list_any test xs)
    where
      go : (b : Bool) → slice_get (if b then xs else xs ++ x ∷ []) k ≡ Some y
      go true = e
      go false = get_front xs (x ∷ []) k y e

-- ---- keys

pub same_number : (m n : ℕ) → (m == n) ≡ true → m ≡ n
same_number m n e = grind (arith, nat_tests)

pub number_same : (m n : ℕ) → m ≡ n → (m == n) ≡ true
number_same m n e = grind (arith, nat_tests)

pub sides_same : (s : Side) → same_side s s ≡ true
sides_same Instance = refl
sides_same Class = refl

pub same_sides : (s r : Side) → same_side s r ≡ true → s ≡ r
same_sides Instance Instance e = refl
same_sides Class Class e = refl
same_sides Instance Class e = absurd (true≢false (sym e))
same_sides Class Instance e = absurd (true≢false (sym e))

pub keys_same : (key : Key) → same_key key key ≡ true
keys_same doit = refl
keys_same (method c s selector) =
    let number : (c == c) ≡ true = number_same c c refl in
    let text : bytes_eq selector selector ≡ true = (bytes_decides selector selector).1 refl in
    rw (number, sides_same s) text

pub same_keys : (key other : Key) → same_key key other ≡ true → key ≡ other
same_keys doit doit e = refl
same_keys doit (method d r other) e = absurd (true≢false (sym e))
same_keys (method c s selector) doit e = absurd (true≢false (sym e))
same_keys (method c s selector) (method d r other) e =
    let h = both_true (c == d) (same_side s r && bytes_eq selector other) e in
    let g = both_true (same_side s r) (bytes_eq selector other) h.1 in
    let number : c ≡ d = same_number c d h.0 in
    let side : s ≡ r = same_sides s r g.0 in
    let text : selector ≡ other = (bytes_decides selector other).0 g.1 in
    λ i. method (number i) (side i) (text i)

-- a key that was numbered has its number
pub numbered_there : (w : World) (key : Key) → slice_get (numbered w key).keys (number_in (numbered w key) key) ≡ Some key
numbered_there w key =
    let r = found_there (same_key key) (numbered w key).keys (any_once (same_key key) key w.keys (keys_same key)) in
    r.1 ∙ ap (λ k. Some k) (sym (same_keys key r.0 r.2))
