-- The classes of an image by their names and places, and how many stand above each.
use Rattle.std.proofs.Common.{◌≡◌, ◌≢◌, ◌∙◌, ◌+◌, ◌-◌, ◌≤◌, ◌<◌, ℕ, suc, zero, Bool, cond, true, false, refl, sym, ap, subst, List, [], ◌∷◌, Option, Some, None, length, map as list_map, option_map, slice_get, get_or, true≢false, arith}
use Rattle.std.specs.Prelude.{option_and_then}
use Rattle.std.specs.List.{AllByRecursion}
use Rattle.std.specs.List.Sorted.{IsPartitionPoint, IsPartitionedBy, IsStrictlySortedBy}
use Rattle.std.specs.Option.{option_map_or}
use Rattle.std.specs.Ordering.{is_lt, nat_cmp}
use Rattle.std.specs.declared.cmp.Ordering.{Ordering}
use Rattle.std.specs.declared.cmp.Ordering.TheVariants.{Less, Equal, Greater}
use Rattle.std.specs.Cmp.{tied_itself}
use Rattle.std.specs.Cmp.Lexicographic.{slice_cmp, nat_list_cmp_total, bytes_decides}
use Rattle.std.specs.FinMap as map
use Rattle.std.specs.Str.{bytes_eq}
use Rattle.s80_class.specs.Classes.{Name, Classes, ClassRow, lineage, then_up, upwards}
use Rattle.s80_image.specs.declared.image.ImageClass.{ImageClass}
use Rattle.s80_image.specs.Classes.{ClassView, class_of, classes_of}
use Rattle.s80_image.specs.Together.{classes_by_name, row_of, superclass_of}
use Rattle.s80_snapshot.specs.Resuming.{climbed, names_of, place_above, place_in, superclass_place}
use Rattle.s80_snapshot.proofs.ImageMaps.{apart, by_bytes, by_found, entries_are, got_at, got_one, keys_are, no_value, one_value, order, other_bytes, same_bytes, unlike}

abbrev name_of : ClassView → Name
name_of c = c.heading.name

-- ---- by their names

pub class_entries : (cs : List ClassView) → IsStrictlySortedBy order (names_of cs) → map.entries (classes_by_name cs) ≡ list_map (λ c. (c.heading.name, row_of c.heading)) cs
unfolding classes_by_name
class_entries cs sorted = entries_are name_of (λ c. row_of c.heading) cs sorted

pub class_keys : (cs : List ClassView) → IsStrictlySortedBy order (names_of cs) → map.keys (classes_by_name cs) ≡ names_of cs
unfolding classes_by_name
class_keys cs sorted = keys_are name_of (λ c. row_of c.heading) cs sorted

pub class_got : (cs : List ClassView) (k : ℕ) (c : ClassView) → IsStrictlySortedBy order (names_of cs) → slice_get cs k ≡ Some c → map.get (classes_by_name cs) c.heading.name ≡ Some (row_of c.heading)
unfolding classes_by_name
class_got cs k c sorted at = got_at name_of (λ c. row_of c.heading) cs k c sorted at

pub class_found : (cs : List ClassView) (name : Name) (row : ClassRow) → map.get (classes_by_name cs) name ≡ Some row → (k : ℕ) × (c : ClassView) × (slice_get cs k ≡ Some c) × (c.heading.name ≡ name) × (row_of c.heading ≡ row)
unfolding classes_by_name
class_found cs name row is = got_one name_of (λ c. row_of c.heading) cs name row is

-- ---- the place of a name

is_less : (o : Ordering) → is_lt o ≡ true → o ≡ Less
is_less Less e = refl
is_less Equal e = absurd (true≢false (sym e))
is_less Greater e = absurd (true≢false (sym e))

below_trans : (a b c : Name) → order a b ≡ Less → is_lt (order b c) ≡ true → is_lt (order a c) ≡ true
below_trans a b c one other = ap is_lt (nat_list_cmp_total.trans a b c one (is_less (order b c) other))

all_at : (P : Name → Type 0) (xs : List ImageClass) (j : ℕ) (d : ImageClass) → AllByRecursion P (names_of (classes_of xs)) → j < length xs → P (get_or xs j d).heading.name
all_at P [] j d all h = let no : ⊥ = omega (arith, h) in absurd no
all_at P (x ∷ xs) zero d all h = all.0
all_at P (x ∷ xs) (suc j) d all h = all_at P xs j d all.1 (omega (arith, h))

pub parted : (xs : List ImageClass) (name : Name) → IsStrictlySortedBy order (names_of (classes_of xs)) → IsPartitionedBy (λ c. is_lt (order c.heading.name name)) xs
unfolding IsStrictlySortedBy
parted [] name sorted i j d le h found = let no : ⊥ = omega (arith, h) in absurd no
parted (x ∷ xs) name sorted zero zero d le h found = found
parted (x ∷ xs) name sorted zero (suc j) d le h found =
    below_trans x.heading.name (get_or xs j d).heading.name name (all_at (λ m. order x.heading.name m ≡ Less) xs j d sorted.0 (omega (arith, h))) found
parted (x ∷ xs) name sorted (suc i) zero d le h found = let no : ⊥ = omega (arith, le) in absurd no
parted (x ∷ xs) name sorted (suc i) (suc j) d le h found = parted xs name sorted.1 i j d (omega (arith, le)) (omega (arith, h)) found

abbrev pub IsPoint : Name → List ImageClass → ℕ → Type 0
IsPoint name xs p = IsPartitionPoint (λ c. is_lt (slice_cmp nat_cmp c.heading.name name) ≡ true) (λ c. is_lt (slice_cmp nat_cmp c.heading.name name) ≡ false) xs p

abbrev pub is_there : Name → List ImageClass → ℕ → Bool
is_there name xs p = option_map_or (λ c. bytes_eq c.heading.name name) (slice_get xs p) false

point_on : (name : Name) (x : ImageClass) (xs : List ImageClass) (p : ℕ) → IsPoint name (x ∷ xs) (suc p) → IsPoint name xs p
point_on name x xs p point = (λ k d ge lt. point.0 (suc k) d (omega arith) (omega (arith, lt)), λ k d ge lt. point.1 (suc k) d (omega (arith, ge)) (omega (arith, lt)))

absent : (x : Name) (cs : List ClassView) (name : Name) → AllByRecursion (λ m. order x m ≡ Less) (names_of cs) → is_lt (order x name) ≡ false → place_in cs name ≡ None
absent x [] name below not_less = refl
absent x (c ∷ cs) name below not_less =
    ap (λ b. cond b (Some 0) (option_map suc (place_in cs name)))
    (other_bytes c.heading.name name (λ same. true≢false (sym (ap is_lt below.0) ∙ ap (λ n. is_lt (order x n)) same ∙ not_less)))
    ∙ ap (option_map suc) (absent x cs name below.1 not_less)

pub place_found : (xs : List ImageClass) (name : Name) (p : ℕ) → IsStrictlySortedBy order (names_of (classes_of xs)) → p ≤ length xs → IsPoint name xs p
    → place_in (classes_of xs) name ≡ cond (is_there name xs p) (Some p) None
unfolding IsStrictlySortedBy
place_found [] name zero sorted within point = refl
place_found [] name (suc p) sorted within point = let no : ⊥ = omega (arith, within) in absurd no
place_found (x ∷ xs) name zero sorted within point =
    ap (λ o. cond (bytes_eq x.heading.name name) (Some 0) (option_map suc o)) (absent x.heading.name (classes_of xs) name sorted.0 (point.1 0 x (omega arith) (omega arith)))
place_found (x ∷ xs) name (suc p) sorted within point =
    ap (λ b. cond b (Some 0) (option_map suc (place_in (classes_of xs) name)))
    (other_bytes x.heading.name name (λ same. true≢false (sym (point.0 0 x (omega arith) (omega arith)) ∙ ap (λ n. is_lt (order n name)) same ∙ ap is_lt (tied_itself nat_list_cmp_total name))))
    ∙ ap (option_map suc) (place_found xs name p sorted.1 (omega (arith, within)) (point_on name x xs p point))
    ∙ later (is_there name xs p)
  where
    later : (b : Bool) → option_map suc (cond b (Some p) None) ≡ cond b (Some (suc p)) None
    later true = refl
    later false = refl

-- the class of this place has this name
pub placed_class : (cs : List ClassView) (name : Name) (k : ℕ) → place_in cs name ≡ Some k → (c : ClassView) × (slice_get cs k ≡ Some c) × (c.heading.name ≡ name)
placed_class [] name k is = absurd (let bad : None ≡ Some k = is in cc)
placed_class (c ∷ cs) name k is = by_name (bytes_eq c.heading.name name) refl is (placed_class cs name)
  where
    later : (o : Option ℕ) → place_in cs name ≡ o → (k : ℕ) → option_map suc o ≡ Some k → ((j : ℕ) → place_in cs name ≡ Some j → (d : ClassView) × (slice_get cs j ≡ Some d) × (d.heading.name ≡ name))
        → (d : ClassView) × (slice_get (c ∷ cs) k ≡ Some d) × (d.heading.name ≡ name)
    later None is k at more = absurd (let bad : None ≡ Some k = at in cc)
    later (Some j) is k at more = let r = more j is in (r.0, ap (slice_get (c ∷ cs)) (sym (one_value (Some (suc j)) (suc j) k refl at)) ∙ r.1, r.2)

    by_name : (b : Bool) → bytes_eq c.heading.name name ≡ b → cond b (Some 0) (option_map suc (place_in cs name)) ≡ Some k
        → ((j : ℕ) → place_in cs name ≡ Some j → (d : ClassView) × (slice_get cs j ≡ Some d) × (d.heading.name ≡ name)) → (d : ClassView) × (slice_get (c ∷ cs) k ≡ Some d) × (d.heading.name ≡ name)
    by_name true same at more = (c, ap (slice_get (c ∷ cs)) (sym (one_value (Some 0) 0 k refl at)), (bytes_decides c.heading.name name).0 same)
    by_name false differs at more = later (place_in cs name) refl k at more

pub place_within : (xs : List ImageClass) (name : Name) (k : ℕ) → place_in (classes_of xs) name ≡ Some k → k < length xs
place_within xs name k is = let c = placed_class (classes_of xs) name k is in within xs k c.0 c.1
  where
    within : (ys : List ImageClass) (j : ℕ) (d : ClassView) → slice_get (classes_of ys) j ≡ Some d → j < length ys
    within [] j d at = absurd (let bad : None ≡ Some d = at in cc)
    within (y ∷ ys) zero d at = omega arith
    within (y ∷ ys) (suc j) d at = let r = within ys j d at in omega (arith, r)

-- a name without a place is that of no class
pub no_place : (cs : List ClassView) (name : Name) → place_in cs name ≡ None → (k : ℕ) (c : ClassView) → slice_get cs k ≡ Some c → c.heading.name ≢ name
no_place [] name none k c at = λ same. absurd (let bad : None ≡ Some c = at in cc)
no_place (d ∷ cs) name none k c at = by_name (bytes_eq d.heading.name name) refl none k c at (no_place cs name)
  where
    left : (o : Option ℕ) → option_map suc o ≡ None → o ≡ None
    left None e = refl
    left (Some j) e = absurd (let bad : Some (suc j) ≡ None = e in cc)

    by_name : (b : Bool) → bytes_eq d.heading.name name ≡ b → cond b (Some 0) (option_map suc (place_in cs name)) ≡ None → (k : ℕ) (c : ClassView) → slice_get (d ∷ cs) k ≡ Some c
        → (place_in cs name ≡ None → (j : ℕ) (e : ClassView) → slice_get cs j ≡ Some e → e.heading.name ≢ name) → c.heading.name ≢ name
    by_name true same none k c at more = absurd (let bad : Some 0 ≡ None = none in cc)
    by_name false differs none zero c at more = λ e. unlike d.heading.name name differs (ap (λ (x : ClassView). x.heading.name) (one_value (Some d) d c refl at) ∙ e)
    by_name false differs none (suc k) c at more = more (left (place_in cs name) none) k c at

-- no class has a name without a place
pub not_got : (cs : List ClassView) (name : Name) → place_in cs name ≡ None → map.get (classes_by_name cs) name ≡ None
not_got cs name none = by_found (map.get (classes_by_name cs) name) (λ e. e) (λ row is. let at = class_found cs name row is in absurd (no_place cs name none at.0 at.1 at.2 at.3))

-- ---- the walk up

-- so many classes were passed, and the others stand from here on
abbrev pub IsPassed : List (Option ℕ) → ℕ → ℕ → ℕ → Option ℕ → Type 0
IsPassed above place count passed next = climbed count above (Some place) ≡ passed + climbed (count - passed) above next

pub none_passed : (above : List (Option ℕ)) (place count : ℕ) → IsPassed above place count 0 (Some place)
none_passed above place count =
    let same : count ≡ count - 0 = omega arith in
    let a : climbed count above (Some place) ≡ climbed (count - 0) above (Some place) = ap (λ n. climbed n above (Some place)) same in
    omega (arith, a)

pub one_passed : (above : List (Option ℕ)) (place count passed number : ℕ) (now next : Option ℕ) → passed < count → now ≡ Some number → next ≡ place_above above number
    → IsPassed above place count passed now → IsPassed above place count (passed + 1) next
one_passed above place count passed number now next within is on so =
    let left : ℕ = count - (passed + 1) in
    let more : count - passed ≡ suc left = omega arith in
    let a : climbed (count - passed) above now ≡ suc (climbed left above (place_above above number)) = λ i. climbed (more i) above (is i) in
    let b : climbed left above next ≡ climbed left above (place_above above number) = ap (climbed left above) on in
    omega (arith, so, a, b)

none_above : (n : ℕ) (above : List (Option ℕ)) → climbed n above None ≡ 0
none_above zero above = refl
none_above (suc n) above = refl

pub all_passed : (above : List (Option ℕ)) (place count passed : ℕ) (next : Option ℕ) → next ≡ None → IsPassed above place count passed next → passed ≡ climbed count above (Some place)
all_passed above place count passed next none so =
    let a : climbed (count - passed) above next ≡ 0 = ap (climbed (count - passed) above) none ∙ none_above (count - passed) above in
    omega (arith, so, a)

pub most_passed : (above : List (Option ℕ)) (place count passed : ℕ) (next : Option ℕ) → count ≤ passed → passed ≤ count → IsPassed above place count passed next → count ≡ climbed count above (Some place)
most_passed above place count passed next past within so =
    let none : count - passed ≡ 0 = omega arith in
    let a : climbed (count - passed) above next ≡ 0 = ap (λ n. climbed n above next) none in
    omega (arith, so, a)

-- ---- the depth of a class

none_up : (n : ℕ) (classes : Classes) → upwards n classes None ≡ []
none_up zero classes = refl
none_up (suc n) classes = refl

not_up : (n : ℕ) (classes : Classes) (name : Name) → map.get classes name ≡ None → upwards n classes (Some name) ≡ []
not_up zero classes name none = refl
not_up (suc n) classes name none = ap (λ o. then_up name o (λ row. upwards n classes row.superclass)) none

map_at : {X Y : Type 0} (f : X → Y) (xs : List X) (k : ℕ) (x : X) → slice_get xs k ≡ Some x → slice_get (list_map f xs) k ≡ Some (f x)
map_at f [] k x at = absurd (let bad : None ≡ Some x = at in cc)
map_at f (y ∷ ys) zero x at = ap (λ z. Some (f z)) (one_value (Some y) y x refl at)
map_at f (y ∷ ys) (suc k) x at = map_at f ys k x at

module _ (cs : List ClassView) (sorted : IsStrictlySortedBy order (names_of cs)) where
  abbrev places : List (Option ℕ)
  places = list_map (superclass_place cs) cs

  abbrev classes : Classes
  classes = classes_by_name cs

  abbrev Climbs : ℕ → Type 0
  Climbs n = (k : ℕ) (c : ClassView) → slice_get cs k ≡ Some c → climbed n places (Some k) ≡ length (upwards n classes (Some c.heading.name))

  climb_from : (n : ℕ) → Climbs n → (name : Option Name) → climbed n places (option_and_then (place_in cs) name) ≡ length (upwards n classes name)
  climb_from n climbs None = none_above n places ∙ sym (ap length (none_up n classes))
  climb_from n climbs (Some name) = by_found (place_in cs name)
      (λ none. ap (climbed n places) none ∙ none_above n places ∙ sym (ap length (not_up n classes name (not_got cs name none))))
      (λ k is. let c = placed_class cs name k is in ap (climbed n places) is ∙ climbs k c.0 c.1 ∙ ap (λ m. length (upwards n classes (Some m))) c.2)

  -- as many as stand on the way up by their names
  climb : (n : ℕ) → Climbs n
  climb zero k c at = refl
  climb (suc n) k c at =
      ap suc (ap (λ o. climbed n places (option_and_then (λ p. p) o)) (map_at (superclass_place cs) cs k c at) ∙ climb_from n (climb n) (superclass_of c.heading.superclass))
      ∙ sym (ap (λ o. length (then_up c.heading.name o (λ row. upwards n classes row.superclass))) (class_got cs k c sorted at))

  pub depth_is : (k : ℕ) (c : ClassView) → slice_get cs k ≡ Some c → climbed (length places) places (Some k) ≡ length (lineage classes c.heading.name)
  depth_is k c at = climb (length places) k c at ∙ ap (λ n. length (upwards n classes (Some c.heading.name))) counted
    where
      count_of : {X Y : Type 0} (f : X → Y) (xs : List X) → length (list_map f xs) ≡ length xs
      count_of f [] = refl
      count_of f (x ∷ xs) = ap suc (count_of f xs)

      counted : length places ≡ map.len classes
      counted = count_of (superclass_place cs) cs ∙ sym (map.len-entries classes ∙ ap length (class_entries cs sorted) ∙ count_of (λ c. (c.heading.name, row_of c.heading)) cs)
