-- Chains of superclasses, by where the classes stand.
use Rattle.std.proofs.Common.{◌≡◌, ◌<◌, ◌∙◌, ℕ, zero, suc, ◌+◌, ◌-◌, Bool, true, false, List, [], ◌∷◌, ◌++◌, length, Option, Some, None, is_some, refl, sym, ap, subst, arith, ◌⊎◌, inl, inr}
use Rattle.std.specs.Prelude.{slice_get, Result, Ok, Err}
use Rattle.std.specs.Result.{result_ok}
use Rattle.std.specs.List.Sorted.{IsBinarySearchResult, IsSearchInRange}
use Rattle.std.specs.Option.{option_map_or}
use Rattle.std.specs.FinMap as map
use Rattle.std.proofs.lemmas.List.{length-append, length-map}
use Rattle.std.proofs.lemmas.Option.{slice_get_within}
use Rattle.s80_class.specs.declared.inherited.Totals.{Totals}
use Rattle.s80_class.specs.Classes.{ClassRow, Classes, inherited_in, inherited_of, then_up, upwards}
use Rattle.s80_class.specs.Counted.{nothing, over, own_of, totals}
use Rattle.s80_class.proofs.lemmas.Lines.{Entry}
use Rattle.s80_class.proofs.lemmas.Walks.{over_assoc, over_nothing, totals_counted, totals_more}
use Rattle.s80_image.specs.declared.image.ImageClass.{ImageClass}
use Rattle.s80_image.specs.Parts.{Name}
use Rattle.s80_image.specs.Classes.{ClassView, class_of, classes, classes_of}
use Rattle.s80_image.specs.Superclasses.{AreLinked, AreSuperclasses, GoesOn, IsPlaceOf}
use Rattle.s80_image.specs.Together.{classes_by_name, ends_within, row_of, superclass_of}
use Rattle.s80_image.proofs.ByName.{class_at, found_at, rises_to, sought, stands_nowhere, stands_there}

-- ---- a class by its name

pub place_found : (xs : List ImageClass) (q : Name) (r : Result ℕ ℕ) (o : Option ℕ) → o ≡ result_ok r → IsSearchInRange r (length xs) → IsBinarySearchResult (sought q) xs r → classes.lawful (classes_of xs) ≡ true
    → IsPlaceOf (classes_of xs) q o
place_found xs q (Ok i) o e within found lawful = subst (IsPlaceOf (classes_of xs) q) (sym e) (stands_there xs q i within found)
place_found xs q (Err i) o e within found lawful = subst (IsPlaceOf (classes_of xs) q) (sym e) (stands_nowhere xs q i (found (rises_to xs q lawful)))

pub told_by_place : (xs : List ImageClass) → classes.lawful (classes_of xs) ≡ true → (q : Name) (place : Option ℕ) (b : Bool) → b ≡ is_some place → IsPlaceOf (classes_of xs) q place → b ≡ map.contains_key (classes_by_name (classes_of xs)) q
told_by_place xs lawful q None b is none = is ∙ sym (ap is_some none)
told_by_place xs lawful q (Some i) b is (c, at, named) = is ∙ sym (ap is_some (subst (λ n. map.get (classes_by_name (classes_of xs)) n ≡ Some (row_of c.heading)) named (found_at (classes_of xs) lawful i c at)))

-- ---- one superclass more

get_pushed : {A : Type 0} (xs : List A) (x : A) (i : ℕ) (y : A) → slice_get (xs ++ x ∷ []) i ≡ Some y → (slice_get xs i ≡ Some y) ⊎ ((i ≡ length xs) × (x ≡ y))
get_pushed [] x zero y e = inr (refl, (let same : x ≡ y = cc in same))
get_pushed [] x (suc i) y e = absurd cc
get_pushed (z ∷ xs) x zero y e = inl e
get_pushed (z ∷ xs) x (suc i) y e = elim (get_pushed xs x i y e) as (λ _. (slice_get xs i ≡ Some y) ⊎ ((suc i ≡ suc (length xs)) × (x ≡ y))) [
  | inl old ↦ inl old
  | inr new ↦ inr (ap suc new.0, new.1)
]

pub one_placed : (xs : List ImageClass) (n : ℕ) (places more : List (Option ℕ)) (x : ImageClass) (place : Option ℕ) → slice_get xs n ≡ Some x → IsPlaceOf (classes_of xs) x.heading.superclass place
    → more ≡ places ++ place ∷ [] → AreSuperclasses (classes_of xs) n places → AreSuperclasses (classes_of xs) (n + 1) more
one_placed xs n places more x place here stands pushed before = subst (AreSuperclasses (classes_of xs) (n + 1)) (sym pushed) (record { size = omega (arith, before.size, length-append places (place ∷ [])); each = each })
  where
    each : (i : ℕ) (c : ClassView) (p : Option ℕ) → slice_get (classes_of xs) i ≡ Some c → slice_get (places ++ place ∷ []) i ≡ Some p → IsPlaceOf (classes_of xs) c.heading.superclass p
    each i c p at there = elim (get_pushed places place i p there) as (λ _. IsPlaceOf (classes_of xs) c.heading.superclass p) [
      | inl old ↦ before.each i c p at old
      | inr new ↦
          let seen : slice_get (classes_of xs) i ≡ Some (class_of x) = ap (slice_get (classes_of xs)) (new.0 ∙ before.size) ∙ class_at xs n x here in
          let same : class_of x ≡ c = cc in
          subst (λ q. IsPlaceOf (classes_of xs) c.heading.superclass q) new.1 (subst (λ (d : ClassView). IsPlaceOf (classes_of xs) d.heading.superclass place) same stands)
    ]

-- ---- steps

pub class_there : (xs : List ImageClass) (i : ℕ) → i < length xs → (c : ClassView) × (slice_get (classes_of xs) i ≡ Some c)
class_there [] i lt = absurd (omega arith)
class_there (x ∷ xs) zero lt = (class_of x, refl)
class_there (x ∷ xs) (suc i) lt = class_there xs i (omega arith)

pub viewed_length : (xs : List ImageClass) → length (classes_of xs) ≡ length xs
viewed_length xs = length-map xs class_of

ends_more : (n : ℕ) (cs : Classes) (name : Name) (row : ClassRow) → map.get cs name ≡ Some row → ends_within (suc n) cs (Some name) ≡ ends_within n cs row.superclass
ends_more n cs name row is = ap (λ o. option_map_or (λ (r : ClassRow). ends_within n cs r.superclass) o false) is

upwards_none : (n : ℕ) (cs : Classes) → upwards n cs None ≡ []
upwards_none zero cs = refl
upwards_none (suc n) cs = refl

upwards_more : (n : ℕ) (cs : Classes) (name : Name) (row : ClassRow) → map.get cs name ≡ Some row → upwards (suc n) cs (Some name) ≡ (name, row) ∷ upwards n cs row.superclass
upwards_more n cs name row is = ap (λ r. then_up name r (λ (r : ClassRow). upwards n cs r.superclass)) is

-- ---- whether a chain ends

abbrev pub EndsAs : List ClassView → ℕ → ℕ → Option ℕ → Type 0
EndsAs cs class left place = (name : Option Name) × GoesOn cs place name
    × ((c : ClassView) → slice_get cs class ≡ Some c → ends_within left (classes_by_name cs) name ≡ ends_within (map.len (classes_by_name cs)) (classes_by_name cs) (Some c.heading.name))

-- what a class and those above it have is what was counted, and what those that are left have
pub record CountsAs (cs : List ClassView) (class left : ℕ) (place : Option ℕ) (t : Totals) : Type 0 where
  pub name : Option Name
  pub goes : GoesOn cs place name
  pub full : over t nothing ≡ t
  pub is : (c : ClassView) → slice_get cs class ≡ Some c → over t (totals (inherited_in (upwards left (classes_by_name cs) name))) ≡ totals (inherited_of (classes_by_name cs) c.heading.name)

pub within : (cs : List ClassView) (i : ℕ) (name : Option Name) → GoesOn cs (Some i) name → i < length cs
within cs i name goes = slice_get_within cs i goes.0 goes.1

module _ (xs : List ImageClass) (places : List (Option ℕ)) (linked : AreLinked (classes_of xs) places) where
  abbrev cs : List ClassView
  cs = classes_of xs

  abbrev by : Classes
  by = classes_by_name cs

  pub next_within : (i : ℕ) (place : Option ℕ) → place ≡ Some i → (name : Option Name) → GoesOn cs place name → i < length places
  next_within i place is name goes = omega (arith, within cs i name (subst (λ p. GoesOn cs p name) is goes), linked.size)

  pub next_here : (i : ℕ) (place : Option ℕ) → place ≡ Some i → (name : Option Name) → GoesOn cs place name → i < length xs
  next_here i place is name goes = omega (arith, within cs i name (subst (λ p. GoesOn cs p name) is goes), viewed_length xs)

  begins : (class : ℕ) → class < length xs → (c : ClassView) × (slice_get cs class ≡ Some c) × (length xs - 0 ≡ map.len by)
  begins class lt =
      let there = class_there xs class lt in
      (there.0, there.1, omega (arith, linked.count, viewed_length xs))

  same_class : (i : ℕ) (c d : ClassView) → slice_get cs i ≡ Some c → slice_get cs i ≡ Some d → c ≡ d
  same_class i c d p q = cc

  pub ends_begin : (class : ℕ) → class < length xs → EndsAs cs class (length xs - 0) (Some class)
  ends_begin class lt =
      let b = begins class lt in (
        Some b.0.heading.name,
        (b.0, b.1, refl),
        λ d at.
            (λ i. ends_within (b.2 i) by (Some (same_class class b.0 d b.1 at i).heading.name)),
      )

  pub ends_step : (class end i at : ℕ) (here place : Option ℕ) → here ≡ Some at → i < end → EndsAs cs class (end - i) here → slice_get places at ≡ Some place → EndsAs cs class (end - (i + 1)) place
  ends_step class end i at here place is lt before at_place =
      let e = subst (EndsAs cs class (end - i)) is before in
      let c = e.1.0 in
      let more : end - i ≡ suc (end - (i + 1)) = omega arith in
      let step : ends_within (end - i) by e.0 ≡ ends_within (end - (i + 1)) by (superclass_of c.heading.superclass) =
      (λ k. ends_within (more k) by (e.1.2 k)) ∙ ends_more (end - (i + 1)) by c.heading.name (row_of c.heading) (linked.found at c e.1.1) in
      (superclass_of c.heading.superclass, linked.each at c place e.1.1 at_place, λ d there. sym step ∙ e.2 d there)

  pub counts_begin : (class : ℕ) → class < length xs → CountsAs cs class (length xs - 0) (Some class) nothing
  counts_begin class lt =
      let b = begins class lt in
      record {
        name = Some b.0.heading.name;
        goes = (b.0, b.1, refl);
        full = refl;
        is = λ d at.
            totals_counted (upwards (length xs - 0) by (Some b.0.heading.name))
            ∙ (λ i. totals (inherited_in (upwards (b.2 i) by (Some (same_class class b.0 d b.1 at i).heading.name))));
      }

  pub counts_here : (class left : ℕ) (t : Totals) → CountsAs cs class left None t → (c : ClassView) → slice_get cs class ≡ Some c → t ≡ totals (inherited_of by c.heading.name)
  counts_here class left t h c at =
      let none : upwards left by h.name ≡ [] = ap (upwards left by) h.goes ∙ upwards_none left by in
      sym h.full ∙ sym (ap (λ es. over t (totals (inherited_in es))) none) ∙ h.is c at

  -- no class is left
  pub counts_end : (class left : ℕ) (place : Option ℕ) (t : Totals) → place ≡ None → CountsAs cs class left place t → (c : ClassView) → slice_get cs class ≡ Some c → t ≡ totals (inherited_of by c.heading.name)
  counts_end class left place t none h c at = counts_here class left t (subst (λ p. CountsAs cs class left p t) none h) c at

  pub counts_step : (class end i at : ℕ) (here place : Option ℕ) (t : Totals) (x : ImageClass) → here ≡ Some at → i < end → CountsAs cs class (end - i) here t → slice_get xs at ≡ Some x → slice_get places at ≡ Some place
      → CountsAs cs class (end - (i + 1)) place (over t (own_of (row_of x.heading)))
  counts_step class end i at here place t x is lt before there at_place =
      let h = subst (λ p. CountsAs cs class (end - i) p t) is before in
      let c = h.goes.0 in
      let same : c ≡ class_of x = same_class at c (class_of x) h.goes.1 (class_at xs at x there) in
      let more : end - i ≡ suc (end - (i + 1)) = omega arith in
      let rest : List Entry = upwards (end - (i + 1)) by (superclass_of x.heading.superclass) in
      let row : map.get by x.heading.name ≡ Some (row_of x.heading) = subst (λ (d : ClassView). map.get by d.heading.name ≡ Some (row_of d.heading)) same (linked.found at c h.goes.1) in
      let name : h.name ≡ Some x.heading.name = h.goes.2 ∙ ap (λ (d : ClassView). Some d.heading.name) same in
      let step : upwards (end - i) by h.name ≡ (x.heading.name, row_of x.heading) ∷ rest =
      (λ k. upwards (more k) by (name k)) ∙ upwards_more (end - (i + 1)) by x.heading.name (row_of x.heading) row in
      record {
        name = superclass_of x.heading.superclass;
        goes = subst (λ (d : ClassView). GoesOn cs place (superclass_of d.heading.superclass)) same (linked.each at c place h.goes.1 at_place);
        full = over_nothing t (own_of (row_of x.heading));
        is = λ d is.
            over_assoc t (own_of (row_of x.heading)) (totals (inherited_in rest))
            ∙ ap (over t) (sym (totals_more (x.heading.name, row_of x.heading) rest))
            ∙ sym (ap (λ es. over t (totals (inherited_in es))) step) ∙ h.is d is;
      }
