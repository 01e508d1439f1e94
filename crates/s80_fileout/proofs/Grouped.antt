-- A list that is sorted by a key, as its groups one after the other.
use Rattle.std.proofs.Common.{◌≡◌, ◌∙◌, ◌+◌, ◌<◌, ◌||◌, ◌&&◌, ◌++◌, not, cond, ℕ, suc, Bool, true, false, true≢false, refl, sym, ap, subst, List, [], ◌∷◌, length, get_or, arith}
use Rattle.std.specs.List.{AllByRecursion, All, filter, flat_map, list_any}
use Rattle.std.specs.List.Sorted.{IsSortedBy, IsStableBy, ties}
use Rattle.std.specs.Ordering.{is_lt, is_eq, eq_by_cmp, ordering_reverse}
use Rattle.std.specs.declared.cmp.Ordering.{Ordering}
use Rattle.std.specs.declared.cmp.Ordering.TheVariants.{Less, Equal, Greater}
use Rattle.std.specs.Cmp.{IsTotalOrder, tied_itself}
use Rattle.std.specs.FinMap.{IsAntisymmetric}
use Rattle.std.proofs.lemmas.List.Elements.{filter_agree}
use Rattle.std.proofs.lemmas.List.Sorted.{ranks_by, sorted_far}

-- from each place to each element
pub all_from : {X : Type 0} (P : X → Type 0) (xs : List X) → ((j : ℕ) (d : X) → j < length xs → P (get_or xs j d)) → AllByRecursion P xs
all_from P [] at = tt
all_from P (x ∷ xs) at = (at 0 x (omega arith), all_from P xs (λ j d within. at (suc j) d (omega arith)))

tie_tells : (r : Ordering) → (not (is_lt (ordering_reverse r)) && not (is_lt r)) ≡ is_eq r
tie_tells Less = refl
tie_tells Equal = refl
tie_tells Greater = refl

equal_is : (r : Ordering) → is_eq r ≡ true → r ≡ Equal
equal_is Less e = absurd (true≢false (sym e))
equal_is Equal e = refl
equal_is Greater e = absurd (true≢false (sym e))

-- keys that strictly rise
abbrev pub Rises : {K : Type 0} → (K → K → Ordering) → List K → Type 0
Rises R [] = Unit {0}
Rises R (k ∷ ks) = AllByRecursion (λ j. is_lt (R k j) ≡ true) ks × Rises R ks

-- keys in a total order by which only equal ones tie, and a test that tells these
module _ {X K : Type 0} (key : X → K) (R : K → K → Ordering) (o : IsTotalOrder R) (anti : IsAntisymmetric R) (same : K → K → Bool) (test : (a b : K) → same a b ≡ eq_by_cmp R a b) where
  abbrev less : K → K → Bool
  less a b = is_lt (R a b)

  abbrev lower : X → X → Bool
  lower x y = less (key x) (key y)

  -- those of this key
  abbrev having : K → List X → List X
  having k xs = filter (λ x. same (key x) k) xs

  abbrev grouped : List K → List X → List X
  grouped ks xs = flat_map (λ k. having k xs) ks

  -- no key falls
  abbrev IsUp : List X → Type 0
  IsUp [] = Unit {0}
  IsUp (x ∷ xs) = AllByRecursion (λ z. lower z x ≡ false) xs × IsUp xs

  same_is : (a b : K) → same a b ≡ true → a ≡ b
  same_is a b is = anti a b (equal_is (R a b) (sym (test a b) ∙ is))

  not_below_itself : (k : K) → less k k ≡ false
  not_below_itself k = ap is_lt (tied_itself o k)

  none_there : (ks : List K) (k : K) (y : X) → same (key y) k ≡ true → AllByRecursion (λ j. less k j ≡ true) ks → list_any (same (key y)) ks ≡ false
  none_there [] k y is above = refl
  none_there (j ∷ ks) k y is above =
      elim (same (key y) j) as (λ b. same (key y) j ≡ b → (b || list_any (same (key y)) ks) ≡ false) [
        | true ↦ λ here.
            let one : j ≡ k = sym (same_is (key y) j here) ∙ same_is (key y) k is in
            absurd (true≢false (sym above.0 ∙ ap (less k) one ∙ not_below_itself k))
        | false ↦ λ _. none_there ks k y is above.1
      ] refl

  there_above : (ks : List K) (k : K) (y : X) → list_any (same (key y)) ks ≡ true → AllByRecursion (λ j. less k j ≡ true) ks → less k (key y) ≡ true
  there_above [] k y there above = absurd (true≢false (sym there))
  there_above (j ∷ ks) k y there above =
      elim (same (key y) j) as (λ b. same (key y) j ≡ b → (b || list_any (same (key y)) ks) ≡ true → less k (key y) ≡ true) [
        | true ↦ λ here _. ap (less k) (same_is (key y) j here) ∙ above.0
        | false ↦ λ _ later. there_above ks k y later above.1
      ] refl there

  none_more : (k : K) (y : X) (ys : List X) → less k (key y) ≡ true → AllByRecursion (λ z. lower z y ≡ false) ys → having k ys ≡ []
  none_more k y [] below up = refl
  none_more k y (z ∷ ys) below up =
      elim (same (key z) k) as (λ b. same (key z) k ≡ b → cond b (z ∷ having k ys) (having k ys) ≡ []) [
        | true ↦ λ is. absurd (true≢false (sym below ∙ ap (λ a. less a (key y)) (sym (same_is (key z) k is)) ∙ up.0))
        | false ↦ λ _. none_more k y ys below up.1
      ] refl

  skipped : (ks : List K) (y : X) (ys : List X) → list_any (same (key y)) ks ≡ false → grouped ks (y ∷ ys) ≡ grouped ks ys
  skipped [] y ys none = refl
  skipped (k ∷ ks) y ys none =
      elim (same (key y) k) as (λ b. (b || list_any (same (key y)) ks) ≡ false → cond b (y ∷ having k ys) (having k ys) ++ grouped ks (y ∷ ys) ≡ having k ys ++ grouped ks ys) [
        | true ↦ λ bad. absurd (true≢false bad)
        | false ↦ λ rest. ap (λ l. having k ys ++ l) (skipped ks y ys rest)
      ] none

  first_grouped : (ks : List K) (y : X) (ys : List X) → Rises R ks → list_any (same (key y)) ks ≡ true → AllByRecursion (λ z. lower z y ≡ false) ys → grouped ks (y ∷ ys) ≡ y ∷ grouped ks ys
  first_grouped [] y ys rises there up = absurd (true≢false (sym there))
  first_grouped (k ∷ ks) y ys rises there up =
      elim (same (key y) k) as (λ b. same (key y) k ≡ b → (b || list_any (same (key y)) ks) ≡ true → cond b (y ∷ having k ys) (having k ys) ++ grouped ks (y ∷ ys) ≡ y ∷ (having k ys ++ grouped ks ys)) [
        | true ↦ λ is _. ap (λ l. y ∷ (having k ys ++ l)) (skipped ks y ys (none_there ks k y is rises.0))
        | false ↦ λ _ later.
            let none : having k ys ≡ [] = none_more k y ys (there_above ks k y later rises.0) up in
            subst (λ l. l ++ grouped ks (y ∷ ys) ≡ y ∷ (l ++ grouped ks ys)) (sym none) (first_grouped ks y ys rises.1 later up)
      ] refl there

  none_grouped : (ks : List K) → grouped ks [] ≡ []
  none_grouped [] = refl
  none_grouped (k ∷ ks) = none_grouped ks

  all_grouped : (ks : List K) (ys : List X) → Rises R ks → IsUp ys → AllByRecursion (λ y. list_any (same (key y)) ks ≡ true) ys → grouped ks ys ≡ ys
  all_grouped ks [] rises up there = none_grouped ks
  all_grouped ks (y ∷ ys) rises up there = first_grouped ks y ys rises there.0 up.0 ∙ ap (λ l. y ∷ l) (all_grouped ks ys rises up.1 there.1)

  up_from : (xs : List X) → IsSortedBy lower xs → IsUp xs
  up_from [] sorted = tt
  up_from (x ∷ xs) sorted = (
    all_from (λ z. lower z x ≡ false) xs (λ j d within. sorted_far lower (ranks_by o key) (x ∷ xs) sorted 0 (suc j) d (omega arith) (omega arith)),
    up_from xs (λ k d low within. let on : suc k + 1 ≡ suc (k + 1) = omega arith in subst (λ n. lower (get_or (x ∷ xs) n d) (get_or xs k d) ≡ false) on (sorted (suc k) d (omega arith) (omega arith))),
  )

  -- a list that a stable sort by the key made of another, whose keys are among these
  pub sorted_groups : (ks : List K) (xs ys : List X) (of_key : K → X) → ((k : K) → key (of_key k) ≡ k) → Rises R ks → IsSortedBy lower ys → IsStableBy lower xs ys
      → All (λ y. list_any (same (key y)) ks ≡ true) ys → ys ≡ flat_map (λ k. filter (λ x. same (key x) k) xs) ks
  sorted_groups ks xs ys of_key has rises sorted stable there =
      sym (all_grouped ks ys rises (up_from ys sorted) (all_from (λ y. list_any (same (key y)) ks ≡ true) ys there)) ∙ ap (λ h. flat_map h ks) (λ i k. kept k i)
    where
      tied : (k : K) (x : X) → ties lower (of_key k) x ≡ same (key x) k
      tied k x =
          ap (λ a. not (less a (key x)) && not (less (key x) a)) (has k)
          ∙ ap (λ r. not (is_lt r) && not (less (key x) k)) (o.antisymm k (key x))
          ∙ tie_tells (R (key x) k) ∙ sym (test (key x) k)

      kept : (k : K) → having k ys ≡ having k xs
      kept k = filter_agree (λ x. same (key x) k) (ties lower (of_key k)) (λ x. sym (tied k x)) ys ∙ stable (of_key k) ∙ filter_agree (ties lower (of_key k)) (λ x. same (key x) k) (tied k) xs
