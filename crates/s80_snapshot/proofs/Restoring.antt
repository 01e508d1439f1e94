-- The versions of an image, restored one after another.
use Rattle.std.proofs.Common.{◌≡◌, ◌∙◌, ◌+◌, ◌-◌, ◌<◌, ◌++◌, ℕ, suc, zero, Bool, true, false, true≢false, refl, sym, ap, subst, List, [], ◌∷◌, Option, Some, None, length, take, map, reverse, append_assoc, append-nil, get_or, arith}
use Rattle.std.specs.Prelude.{find, if◌then◌else◌, slice_get}
use Rattle.std.specs.Option.{option_map, option_map_or}
use Rattle.std.specs.List.{AllByRecursion}
use Rattle.std.specs.Ordering.{nat_cmp, is_lt, ordering_then}
use Rattle.std.specs.declared.cmp.Ordering.{Ordering}
use Rattle.std.specs.declared.cmp.Ordering.TheVariants.{Less, Equal, Greater}
use Rattle.std.specs.Cmp.{IsTotalOrder, nat_cmp_total, on_total, then_total, tied_itself}
use Rattle.std.specs.Cmp.Lexicographic.{nat_list_cmp_total, slice_cmp}
use Rattle.std.proofs.lemmas.Bool.{and_parts}
use Rattle.std.proofs.lemmas.List.{length-append, reverse-append}
use Rattle.std.proofs.lemmas.Option.{slice_get-get_or}
use Rattle.s80_history.specs.Lists.{MethodName, is_same}
use Rattle.s80_image.specs.Format.{are_lawful, word64}
use Rattle.s80_image.specs.Parts.{class_text, last_of, side, side_number}
use Rattle.s80_image.specs.Classes.{classes}
use Rattle.s80_image.specs.History.{VersionsView, all_versions, change_set, is_above_method, selector_above, versions, versions_behind}
use Rattle.s80_image.specs.Image.{HasLawfulFields, ImageView, contents, image_format}
use Rattle.s80_snapshot.specs.Restored.{places_of}
use Rattle.s80_snapshot.specs.Restoring.{AreDifferent, with_versions}
use Rattle.s80_snapshot.proofs.Pieces.{take_next}
use Rattle.s80_snapshot.proofs.Remembered.{name_same}

-- ---- the order of methods

abbrev method_cmp : MethodName → MethodName → Ordering
method_cmp one other =
    ordering_then (slice_cmp nat_cmp one.class_name other.class_name) (ordering_then (nat_cmp (side_number one.side) (side_number other.side)) (slice_cmp nat_cmp one.selector other.selector))

methods_total : IsTotalOrder method_cmp
methods_total =
    then_total (on_total (λ (n : MethodName). n.class_name) nat_list_cmp_total)
    (then_total (on_total (λ (n : MethodName). side_number n.side) nat_cmp_total) (on_total (λ (n : MethodName). n.selector) nat_list_cmp_total))

is_less : (r : Ordering) → is_lt r ≡ true → r ≡ Less
is_less Less e = refl
is_less Equal e = absurd (true≢false (sym e))
is_less Greater e = absurd (true≢false (sym e))

not_less : Equal ≡ Less → ⊥
not_less e = true≢false (ap is_lt (sym e))

-- ---- each method is behind those before it

abbrev AreBelow : List VersionsView → MethodName → Type 0
AreBelow vs name = AllByRecursion (λ v. method_cmp v.name name ≡ Less) vs

below_more : (vs : List VersionsView) (v : VersionsView) (name : MethodName) → AreBelow vs v.name → method_cmp v.name name ≡ Less → AreBelow (vs ++ v ∷ []) name
below_more [] v name below is = (is, tt)
below_more (u ∷ vs) v name below is = (methods_total.trans u.name v.name name below.0 is, below_more vs v name below.1 is)

-- what is lawful of the versions of one method behind another
module _ (last : Option MethodName) (v : VersionsView) where
  above : (versions last).lawful v ≡ true → is_above_method last v.name ≡ true
  unfolding versions
  above lawful =
      let class = and_parts (class_text.lawful v.name.class_name) _ lawful in
      let side = and_parts (side.lawful v.name.side) _ class.1 in
      let selector = and_parts ((selector_above last v.name.class_name v.name.side).lawful v.name.selector) _ side.1 in
      let text = and_parts _ _ selector.0 in
      (and_parts _ _ text.1).1

at_length : (vs : List VersionsView) (v : VersionsView) → slice_get (vs ++ v ∷ []) (length vs) ≡ Some v
at_length [] v = refl
at_length (u ∷ vs) v = at_length vs v

last_is : (before : List VersionsView) (v : VersionsView) → option_map (λ (u : VersionsView). u.name) (last_of (before ++ v ∷ [])) ≡ Some v.name
last_is before v =
    let end : length (before ++ v ∷ []) - 1 ≡ length before = omega (arith, length-append before (v ∷ [])) in
    ap (λ n. option_map (λ (u : VersionsView). u.name) (slice_get (before ++ v ∷ []) n)) end ∙ ap (option_map (λ (u : VersionsView). u.name)) (at_length before v)

abbrev AreRising : List VersionsView → List VersionsView → Type 0
AreRising before [] = Unit {0}
AreRising before (v ∷ vs) = AreBelow before v.name × AreRising (before ++ v ∷ []) vs

rising_behind : (before : List VersionsView) (last : VersionsView) (vs : List VersionsView) → AreBelow before last.name → are_lawful versions_behind (before ++ last ∷ []) vs ≡ true → AreRising (before ++ last ∷ []) vs
rising_behind before last [] below lawful = tt
rising_behind before last (v ∷ vs) below lawful =
    let parts = and_parts ((versions_behind (before ++ last ∷ [])).lawful v) (are_lawful versions_behind ((before ++ last ∷ []) ++ v ∷ []) vs) lawful in
    let is_above = ap (λ o. is_above_method o v.name) (sym (last_is before last)) ∙ above (option_map (λ (u : VersionsView). u.name) (last_of (before ++ last ∷ []))) v parts.0 in
    let next = below_more before last v.name below (is_less (method_cmp last.name v.name) is_above) in
    (next, rising_behind (before ++ last ∷ []) v vs next parts.1)

rising : (vs : List VersionsView) → are_lawful versions_behind [] vs ≡ true → AreRising [] vs
rising [] lawful = tt
rising (v ∷ vs) lawful = (tt, rising_behind [] v vs tt (and_parts ((versions_behind []).lawful v) (are_lawful versions_behind (v ∷ []) vs) lawful).1)

below_at : (before vs : List VersionsView) (i : ℕ) (v : VersionsView) → AreRising before vs → slice_get vs i ≡ Some v → AreBelow (before ++ take i vs) v.name
below_at before [] i v rises at = absurd (cc)
below_at before (u ∷ vs) zero v rises at =
    let same : u ≡ v = value u v at in subst (λ (w : VersionsView). AreBelow (before ++ []) w.name) same (subst (λ l. AreBelow l u.name) (sym (append-nil before)) rises.0)
  where
    value : (x y : VersionsView) → Some x ≡ Some y → x ≡ y
    value x y e = cc
below_at before (u ∷ vs) (suc i) v rises at = subst (λ l. AreBelow l v.name) (append_assoc before (u ∷ []) (take i vs)) (below_at (before ++ u ∷ []) vs i v rises.1 at)

none_below : (vs : List VersionsView) (name : MethodName) → AreBelow vs name → find (λ u. is_same name u.name) vs ≡ None
none_below [] name below = refl
none_below (v ∷ vs) name below = ap (λ b. if b then Some v else find (λ u. is_same name u.name) vs) (other (is_same name v.name) refl) ∙ none_below vs name below.1
  where
    other : (b : Bool) → is_same name v.name ≡ b → is_same name v.name ≡ false
    other false e = e
    other true e = absurd (not_less (sym (tied_itself methods_total name) ∙ ap (λ n. method_cmp n name) (name_same name v.name e) ∙ below.0))

module _ (image : ImageView) where
  versions_are_lawful : HasLawfulFields image → are_lawful versions_behind [] image.versions ≡ true
  unfolding image_format contents all_versions
  versions_are_lawful lawful =
      let count = and_parts (word64.lawful image.count) _ lawful in
      let classes = and_parts (classes.lawful image.classes) _ count.1 in
      let members = and_parts (change_set.lawful image.change_set) _ classes.1 in
      (and_parts _ _ members.1).1

  pub are_different : HasLawfulFields image → AreDifferent image.versions
  are_different lawful = λ i v at. none_below (take i image.versions) v.name (below_at [] image.versions i v (rising image.versions (versions_are_lawful lawful)) at)

-- ---- what a loop is at

pub read_at : {X : Type 0} (xs : List X) (i : ℕ) (x : X) → i < length xs → x ≡ get_or xs i x → slice_get xs i ≡ Some x
read_at xs i x within is = slice_get-get_or xs i x within ∙ ap Some (sym is)

pub seen_at : {X Y : Type 0} (f : X → Y) (xs : List X) (i : ℕ) (x : X) → slice_get xs i ≡ Some x → slice_get (map f xs) i ≡ Some (f x)
seen_at f [] i x at = absurd (cc)
seen_at f (y ∷ ys) zero x at = ap (option_map f) at
seen_at f (y ∷ ys) (suc i) x at = seen_at f ys i x at

pub member_more : {X : Type 0} (xs : List X) (i : ℕ) (x : X) (old now new : List X) → slice_get xs i ≡ Some x → now ≡ old ++ take i xs → new ≡ now ++ x ∷ [] → new ≡ old ++ take (i + 1) xs
member_more xs i x old now new at so_far more = more ∙ ap (λ l. l ++ x ∷ []) so_far ∙ append_assoc old (take i xs) (x ∷ []) ∙ ap (λ l. old ++ l) (sym (take_next xs i x at))

-- ---- the versions so far

pub found_behind : (test : VersionsView → Bool) (vs : List VersionsView) (v : VersionsView) (b : Bool) → test v ≡ b → find test (vs ++ v ∷ []) ≡ option_map_or (λ (u : VersionsView). Some u) (find test vs) (if b then Some v else None)
found_behind test [] v b e = ap (λ c. if c then Some v else None) e
found_behind test (u ∷ vs) v b e = at_first (test u) (found_behind test vs v b e)
  where
    at_first : (c : Bool) → find test (vs ++ v ∷ []) ≡ option_map_or (λ (u : VersionsView). Some u) (find test vs) (if b then Some v else None)
        → (if c then Some u else find test (vs ++ v ∷ [])) ≡ option_map_or (λ (u : VersionsView). Some u) (if c then Some u else find test vs) (if b then Some v else None)
    at_first true later = refl
    at_first false later = later

abbrev places_in : Option VersionsView → List ℕ
places_in o = option_map_or (λ (v : VersionsView). v.places) o []

one_or_other : (o : Option VersionsView) (v : VersionsView) (b : Bool) → (b ≡ true → o ≡ None)
    → (if b then reverse v.places ++ reverse (places_in o) else reverse (places_in o)) ≡ reverse (places_in (option_map_or (λ (u : VersionsView). Some u) o (if b then Some v else None)))
one_or_other None v true none = append-nil (reverse v.places)
one_or_other None v false none = refl
one_or_other (Some u) v true none = absurd (cc (none refl))
one_or_other (Some u) v false none = refl

pub versions_more : (vs : List VersionsView) (i : ℕ) (v : VersionsView) (name : MethodName) (now new : List ℕ) → AreDifferent vs → slice_get vs i ≡ Some v → now ≡ reverse (places_of (take i vs) name) → new ≡ with_versions v name now
    → new ≡ reverse (places_of (take (i + 1) vs) name)
versions_more vs i v name now new different at so_far more =
    more ∙ ap (with_versions v name) so_far ∙ one_or_other (find (λ u. is_same name u.name) (take i vs)) v (is_same name v.name) none
    ∙ ap (λ (o : Option VersionsView). reverse (places_in o)) (sym (found_behind (λ u. is_same name u.name) (take i vs) v (is_same name v.name) refl))
    ∙ ap (λ (us : List VersionsView). reverse (places_of us name)) (sym (take_next vs i v at))
  where
    none : is_same name v.name ≡ true → find (λ u. is_same name u.name) (take i vs) ≡ None
    none same = ap (λ n. find (λ (u : VersionsView). is_same n u.name) (take i vs)) (name_same name v.name same) ∙ different i v at

-- ---- the versions of one method

pub either_way : {X : Type 0} (b : Bool) (x : X) → (if b then x else x) ≡ x
either_way true x = refl
either_way false x = refl

pub version_more : (vs : List ℕ) (i : ℕ) (at : ℕ) (b : Bool) (old now new : List ℕ) → slice_get vs i ≡ Some at → now ≡ (if b then reverse (take i vs) ++ old else old) → new ≡ (if b then at ∷ now else now)
    → new ≡ (if b then reverse (take (i + 1) vs) ++ old else old)
version_more vs i at true old now new read so_far more =
    more ∙ ap (λ l. at ∷ l) so_far ∙ ap (λ l. l ++ old) (sym (reverse-append (take i vs) (at ∷ []))) ∙ ap (λ l. reverse l ++ old) (sym (take_next vs i at read))
version_more vs i at false old now new read so_far more = more ∙ so_far
