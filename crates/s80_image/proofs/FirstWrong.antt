-- The first class with a wrong field, and where that stands.
use Rattle.std.proofs.Common.{◌≡◌, ◌≤◌, ◌<◌, ◌∙◌, ℕ, zero, suc, ◌+◌, List, [], ◌∷◌, length, take, Option, Some, None, refl, sym, ap, subst, arith, inl, inr}
use Rattle.std.specs.Prelude.{slice_get, option_map}
use Rattle.std.specs.Int.{w32, to_be_bytes}
use Rattle.std.specs.List.{flat_map}
use Rattle.std.proofs.lemmas.Bool.{cases_lt}
use Rattle.std.proofs.lemmas.List.{length-append, take-map}
use Rattle.std.proofs.lemmas.List.Concat.{flat_map-cons}
use Rattle.std.proofs.lemmas.Option.{slice_get_within}
use Rattle.s80_image.specs.declared.image.ClassHeading.{ClassHeading}
use Rattle.s80_image.specs.declared.image.ImageClass.{ImageClass}
use Rattle.s80_image.specs.Classes.{ClassView, class, class_of, classes, classes_of}
use Rattle.s80_image.specs.Superclasses.{field_behind}
use Rattle.s80_image.specs.Together.{Spot, first_class_place, first_wrong, or_else}
use Rattle.s80_image.proofs.ByName.{class_at}
use Rattle.s80_image.proofs.Linked.{viewed_length}
use Rattle.s80_image.proofs.Spelled.{views_spelled}

-- ---- sizes

total : List ClassView → ℕ
total [] = 0
total (c ∷ cs) = length ((class None).spell c) + total cs

total_is : (cs : List ClassView) → length (flat_map (class None).spell cs) ≡ total cs
unfolding total
total_is [] = refl
total_is (c ∷ cs) = ap length (flat_map-cons (class None).spell c cs) ∙ length-append ((class None).spell c) (flat_map (class None).spell cs) ∙ ap (λ n. length ((class None).spell c) + n) (total_is cs)

size_is : (cs : List ClassView) → length (classes.spell cs) ≡ 4 + total cs
size_is cs = ap length (views_spelled cs) ∙ length-append (to_be_bytes w32 (length cs)) (flat_map (class None).spell cs) ∙ ap (λ n. 4 + n) (total_is cs)

-- ---- the first one

module _ (wrong : ClassHeading → Option Spot) where
  -- the classes before this place have nothing wrong
  abbrev pub Passed : List ClassView → ℕ → Type 0
  Passed cs i = (j : ℕ) (d : ClassView) → j < i → slice_get cs j ≡ Some d → wrong d.heading ≡ None

  pub one_passed : (cs : List ClassView) (i : ℕ) (c : ClassView) → slice_get cs i ≡ Some c → wrong c.heading ≡ None → Passed cs i → Passed cs (i + 1)
  one_passed cs i c here none passed j d lt at = elim (cases_lt j i) as (λ _. wrong d.heading ≡ None) [
    | inl below ↦ passed j d below at
    | inr ge ↦
        let place : j ≡ i = omega arith in
        let there : slice_get cs i ≡ Some d = ap (slice_get cs) (sym place) ∙ at in
        let same : c ≡ d = cc in
        subst (λ (k : ClassView). wrong k.heading ≡ None) same none
  ]

  first_at : (at : ℕ) (cs : List ClassView) (i : ℕ) (c : ClassView) (spot : Spot) → slice_get cs i ≡ Some c → Passed cs i → wrong c.heading ≡ Some spot → first_wrong wrong at cs ≡ Some (at + total (take i cs) + spot.0, spot.1)
  unfolding total
  first_at at [] i c spot here passed is = absurd cc
  first_at at (x ∷ cs) zero c spot here passed is =
      let same : c ≡ x = cc in
      let found : wrong x.heading ≡ Some spot = ap (λ (k : ClassView). wrong k.heading) (sym same) ∙ is in
      let place : at + spot.0 ≡ at + 0 + spot.0 = omega arith in
      ap (λ o. or_else (option_map (λ (s : Spot). (at + s.0, s.1)) o) (first_wrong wrong (at + length ((class None).spell x)) cs)) found ∙ ap (λ n. Some (n, spot.1)) place
  first_at at (x ∷ cs) (suc i) c spot here passed is =
      let none : wrong x.heading ≡ None = passed 0 x (omega arith) refl in
      let others : Passed cs i = λ j d lt there. passed (suc j) d (omega arith) there in
      let size : ℕ = length ((class None).spell x) in
      let place : at + size + total (take i cs) + spot.0 ≡ at + (size + total (take i cs)) + spot.0 = omega arith in
      ap (λ o. or_else (option_map (λ (s : Spot). (at + s.0, s.1)) o) (first_wrong wrong (at + size) cs)) none
      ∙ first_at (at + size) cs i c spot here others is ∙ ap (λ n. Some (n, spot.1)) place

  first_none : (at : ℕ) (cs : List ClassView) → ((j : ℕ) (d : ClassView) → slice_get cs j ≡ Some d → wrong d.heading ≡ None) → first_wrong wrong at cs ≡ None
  first_none at [] none = refl
  first_none at (x ∷ cs) none =
      ap (λ o. or_else (option_map (λ (s : Spot). (at + s.0, s.1)) o) (first_wrong wrong (at + length ((class None).spell x)) cs)) (none 0 x refl)
      ∙ first_none (at + length ((class None).spell x)) cs (λ j d at. none (suc j) d at)

  -- and where none is wrong, nothing is told
  pub passes : (at : ℕ) (cs : List ClassView) → first_wrong wrong at cs ≡ None → (j : ℕ) (d : ClassView) → slice_get cs j ≡ Some d → wrong d.heading ≡ None
  passes at [] e j d there = absurd cc
  passes at (x ∷ cs) e j d there = go (wrong x.heading) refl (λ f k is. passes (at + length ((class None).spell x)) cs f k d is) e j there
    where
      go : (o : Option Spot) → wrong x.heading ≡ o
          → (first_wrong wrong (at + length ((class None).spell x)) cs ≡ None → (k : ℕ) → slice_get cs k ≡ Some d → wrong d.heading ≡ None)
          → or_else (option_map (λ (s : Spot). (at + s.0, s.1)) o) (first_wrong wrong (at + length ((class None).spell x)) cs) ≡ None
          → (k : ℕ) → slice_get (x ∷ cs) k ≡ Some d → wrong d.heading ≡ None
      go (Some s) is others e k there = absurd cc
      go None is others e zero there = let same : x ≡ d = cc in ap (λ (c : ClassView). wrong c.heading) (sym same) ∙ is
      go None is others e (suc k) there = others e k there

  module _ (xs : List ImageClass) where
    -- the class at this place is the first that is wrong
    pub told : (i : ℕ) (x : ImageClass) (s spot : Spot) → slice_get xs i ≡ Some x → Passed (classes_of xs) i → wrong x.heading ≡ Some spot → s ≡ field_behind (classes_of (take i xs)) spot
        → Some s ≡ first_wrong wrong first_class_place (classes_of xs)
    told i x s spot here passed is e =
        let size : length (classes.spell (classes_of (take i xs))) ≡ 4 + total (take i (classes_of xs)) =
        ap (λ cs. length (classes.spell cs)) (sym (take-map class_of i xs)) ∙ size_is (take i (classes_of xs)) in
        let place : 13 + length (classes.spell (classes_of (take i xs))) + spot.0 ≡ 17 + total (take i (classes_of xs)) + spot.0 = omega (arith, size) in
        ap Some e ∙ ap (λ n. Some (n, spot.1)) place ∙ sym (first_at first_class_place (classes_of xs) i (class_of x) spot (class_at xs i x here) passed is)

    pub more_passed : (i : ℕ) (x : ImageClass) → slice_get xs i ≡ Some x → wrong x.heading ≡ None → Passed (classes_of xs) i → Passed (classes_of xs) (i + 1)
    more_passed i x here none passed = one_passed (classes_of xs) i (class_of x) (class_at xs i x here) none passed

    pub all_passed : (i : ℕ) → length xs ≤ i → Passed (classes_of xs) i → None ≡ first_wrong wrong first_class_place (classes_of xs)
    all_passed i le passed = sym (first_none first_class_place (classes_of xs) (λ j d at.
        passed j d (omega (arith, slice_get_within (classes_of xs) j d at, viewed_length xs)) at))
