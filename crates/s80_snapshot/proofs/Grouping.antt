-- The methods of an image by their classes and sides.
use Rattle.std.proofs.Common.{◌≡◌, ◌≢◌, ◌∙◌, ◌≤◌, ◌++◌, ◌&&◌, ℕ, suc, zero, Bool, cond, true, false, refl, sym, ap, subst, List, [], ◌∷◌, Option, Some, None, length, map as list_map, slice_get, append-nil, append_assoc, true≢false, arith}
use Rattle.std.specs.Prelude.{filter}
use Rattle.std.specs.List.{AllByRecursion, flat_map, list_any}
use Rattle.std.specs.List.Sorted.{IsStrictlySortedBy}
use Rattle.std.specs.Str.{bytes_eq}
use Rattle.std.specs.declared.cmp.Ordering.TheVariants.{Less}
use Rattle.s80_base.specs.declared.names.Side.{Side}
use Rattle.s80_base.specs.declared.names.Side.TheVariants.{Instance, Class}
use Rattle.s80_class.specs.Classes.{Name}
use Rattle.s80_dict.specs.Table.{same_side}
use Rattle.s80_image.specs.Classes.{ClassView}
use Rattle.s80_image.specs.Methods.{MethodView}
use Rattle.s80_snapshot.specs.Resuming.{is_on, names_of}
use Rattle.s80_snapshot.specs.Sources.{ImagedMethod, imaged_methods, methods_on}
use Rattle.s80_snapshot.proofs.ImageMaps.{apart, one_value, order, other_bytes, same_bytes}
use Rattle.s80_snapshot.proofs.PiecesAdded.{at_each, at_place, passes_of_map, same_pieces}

abbrev pub on_side : ClassView → Side → List MethodView
on_side c Instance = c.instance
on_side c Class = c.class

abbrev pub class_methods : ClassView → List ImagedMethod
class_methods c = methods_on c Instance c.instance ++ methods_on c Class c.class

-- ---- what passes a test

pub passes_apart : {X : Type 0} (t : X → Bool) (xs ys : List X) → filter t (xs ++ ys) ≡ filter t xs ++ filter t ys
passes_apart t [] ys = refl
passes_apart t (x ∷ xs) ys = elim (t x) as (λ b. cond b (x ∷ filter t (xs ++ ys)) (filter t (xs ++ ys)) ≡ cond b (x ∷ filter t xs) (filter t xs) ++ filter t ys) [
  | true ↦ ap (λ l. x ∷ l) (passes_apart t xs ys)
  | false ↦ passes_apart t xs ys
]

module _ {X M : Type 0} (t : X → Bool) (g : M → X) where
  pub whole_passes : (ms : List M) → ((m : M) → t (g m) ≡ true) → filter t (list_map g ms) ≡ list_map g ms
  whole_passes [] all = refl
  whole_passes (m ∷ ms) all = ap (λ b. cond b (g m ∷ filter t (list_map g ms)) (filter t (list_map g ms))) (all m) ∙ ap (λ l. g m ∷ l) (whole_passes ms all)

  pub none_passes : (ms : List M) → ((m : M) → t (g m) ≡ false) → filter t (list_map g ms) ≡ []
  none_passes [] all = refl
  none_passes (m ∷ ms) all = ap (λ b. cond b (g m ∷ filter t (list_map g ms)) (filter t (list_map g ms))) (all m) ∙ none_passes ms all

head_of : {X : Type 0} (x y : X) (xs ys : List X) → x ∷ xs ≡ y ∷ ys → x ≡ y
head_of x y xs ys e = one_value (slice_get (x ∷ xs) 0) x y refl (ap (λ l. slice_get l 0) e)

rest_of : {X : Type 0} → List X → List X
rest_of [] = []
rest_of (x ∷ xs) = xs

tail_of : {X : Type 0} (x y : X) (xs ys : List X) → x ∷ xs ≡ y ∷ ys → xs ≡ ys
unfolding rest_of
tail_of x y xs ys e = ap rest_of e

longer : {X : Type 0} (x : X) (xs : List X) → x ∷ xs ≡ [] → ⊥
longer x xs e = let bad : suc (length xs) ≡ 0 = ap length e in absurd (omega (arith, bad))

-- where elements are seen as others are
module _ {X Y M : Type 0} (f : X → Y) (t : Y → Bool) (g : M → Y) where
  pub whole_seen : (xs : List X) (ms : List M) → list_map f xs ≡ list_map g ms → ((m : M) → t (g m) ≡ true) → filter (λ x. t (f x)) xs ≡ xs
  whole_seen [] ms same all = refl
  whole_seen (x ∷ xs) [] same all = absurd (longer (f x) (list_map f xs) same)
  whole_seen (x ∷ xs) (m ∷ ms) same all =
      ap (λ b. cond b (x ∷ filter (λ x. t (f x)) xs) (filter (λ x. t (f x)) xs)) (ap t (head_of (f x) (g m) (list_map f xs) (list_map g ms) same) ∙ all m)
      ∙ ap (λ l. x ∷ l) (whole_seen xs ms (tail_of (f x) (g m) (list_map f xs) (list_map g ms) same) all)

  pub none_seen : (xs : List X) (ms : List M) → list_map f xs ≡ list_map g ms → ((m : M) → t (g m) ≡ false) → filter (λ x. t (f x)) xs ≡ []
  none_seen [] ms same all = refl
  none_seen (x ∷ xs) [] same all = absurd (longer (f x) (list_map f xs) same)
  none_seen (x ∷ xs) (m ∷ ms) same all =
      ap (λ b. cond b (x ∷ filter (λ x. t (f x)) xs) (filter (λ x. t (f x)) xs)) (ap t (head_of (f x) (g m) (list_map f xs) (list_map g ms) same) ∙ all m)
      ∙ none_seen xs ms (tail_of (f x) (g m) (list_map f xs) (list_map g ms) same) all

nothing_seen : {X Y : Type 0} (f : X → Y) (xs : List X) → list_map f xs ≡ [] → xs ≡ []
nothing_seen f [] none = refl
nothing_seen f (x ∷ xs) none = absurd (longer (f x) (list_map f xs) none)

-- a list that is seen as two
parts_seen : {X Y : Type 0} (f : X → Y) (ms ns : List Y) (xs : List X) → list_map f xs ≡ ms ++ ns → (ys : List X) × (zs : List X) × (xs ≡ ys ++ zs) × (list_map f ys ≡ ms) × (list_map f zs ≡ ns)
parts_seen f [] ns xs same = ([], xs, refl, refl, same)
parts_seen f (m ∷ ms) ns [] same = absurd (longer m (ms ++ ns) (sym same))
parts_seen f (m ∷ ms) ns (x ∷ xs) same =
    let r = parts_seen f ms ns xs (tail_of (f x) m (list_map f xs) (ms ++ ns) same) in
    (x ∷ r.0, r.1, ap (λ l. x ∷ l) r.2, (λ i. head_of (f x) m (list_map f xs) (ms ++ ns) same i ∷ r.3 i), r.4)

-- ---- tests on methods

pub side_itself : (s : Side) → same_side s s ≡ true
side_itself Instance = refl
side_itself Class = refl

pub side_same : (s r : Side) → same_side s r ≡ true → s ≡ r
side_same Instance Instance e = refl
side_same Class Class e = refl
side_same Instance Class e = absurd (true≢false (sym e))
side_same Class Instance e = absurd (true≢false (sym e))

abbrev pub imaged : ClassView → Side → MethodView → ImagedMethod
imaged c side m = record { class_name = c.heading.name; side = side; method = m }

here_on : (c : ClassView) (side : Side) (m : MethodView) → is_on c.heading.name side (imaged c side m) ≡ true
here_on c side m = ap (λ b. b && same_side side side) (same_bytes c.heading.name) ∙ side_itself side

not_both : (b : Bool) → (b && false) ≡ false
not_both true = refl
not_both false = refl

other_side : (name : Name) (c : ClassView) (side s : Side) (m : MethodView) → same_side side s ≡ false → is_on name side (imaged c s m) ≡ false
other_side name c side s m differs = ap (λ b. bytes_eq name c.heading.name && b) differs ∙ not_both (bytes_eq name c.heading.name)

elsewhere : (name : Name) (c : ClassView) (side s : Side) (m : MethodView) → name ≢ c.heading.name → is_on name side (imaged c s m) ≡ false
elsewhere name c side s m differs = ap (λ b. b && same_side side s) (other_bytes name c.heading.name differs)

-- ---- the methods of one class

own_pass : (c : ClassView) (side : Side) → filter (is_on c.heading.name side) (class_methods c) ≡ methods_on c side (on_side c side)
own_pass c Instance =
    passes_apart (is_on c.heading.name Instance) (methods_on c Instance c.instance) (methods_on c Class c.class)
    ∙ (λ i. whole_passes (is_on c.heading.name Instance) (imaged c Instance) c.instance (here_on c Instance) i ++ none_passes (is_on c.heading.name Instance) (imaged c Class) c.class (λ m. other_side c.heading.name c Instance Class m refl) i)
    ∙ append-nil (methods_on c Instance c.instance)
own_pass c Class =
    passes_apart (is_on c.heading.name Class) (methods_on c Instance c.instance) (methods_on c Class c.class)
    ∙ (λ i. none_passes (is_on c.heading.name Class) (imaged c Instance) c.instance (λ m. other_side c.heading.name c Class Instance m refl) i ++ whole_passes (is_on c.heading.name Class) (imaged c Class) c.class (here_on c Class) i)

others_fail : (name : Name) (side : Side) (c : ClassView) → name ≢ c.heading.name → filter (is_on name side) (class_methods c) ≡ []
others_fail name side c differs =
    passes_apart (is_on name side) (methods_on c Instance c.instance) (methods_on c Class c.class)
    ∙ (λ i. none_passes (is_on name side) (imaged c Instance) c.instance (λ m. elsewhere name c side Instance m differs) i ++ none_passes (is_on name side) (imaged c Class) c.class (λ m. elsewhere name c side Class m differs) i)

pub none_later : (name : Name) (side : Side) (cs : List ClassView) → AllByRecursion (λ c. name ≢ c.heading.name) cs → filter (is_on name side) (imaged_methods cs) ≡ []
none_later name side [] apart = refl
none_later name side (c ∷ cs) apart =
    passes_apart (is_on name side) (class_methods c) (imaged_methods cs) ∙ (λ i. others_fail name side c apart.0 i ++ none_later name side cs apart.1 i)

first_apart : (name : Name) (cs : List ClassView) → AllByRecursion (λ m. order name m ≡ Less) (names_of cs) → AllByRecursion (λ c. name ≢ c.heading.name) cs
first_apart name [] below = tt
first_apart name (c ∷ cs) below = ((λ same. apart name c.heading.name below.0 (sym same)), first_apart name cs below.1)

pub on_class : (cs : List ClassView) (k : ℕ) (c : ClassView) (side : Side) → IsStrictlySortedBy order (names_of cs) → slice_get cs k ≡ Some c
    → filter (is_on c.heading.name side) (imaged_methods cs) ≡ methods_on c side (on_side c side)
unfolding IsStrictlySortedBy
on_class [] k c side sorted at = absurd (let bad : None ≡ Some c = at in cc)
on_class (d ∷ cs) zero c side sorted at = subst (λ x. filter (is_on x.heading.name side) (imaged_methods (d ∷ cs)) ≡ methods_on x side (on_side x side)) (one_value (Some d) d c refl at)
    (passes_apart (is_on d.heading.name side) (class_methods d) (imaged_methods cs) ∙ (λ i. own_pass d side i ++ none_later d.heading.name side cs (first_apart d.heading.name cs sorted.0) i) ∙ append-nil (methods_on d side (on_side d side)))
on_class (d ∷ cs) (suc k) c side sorted at =
    passes_apart (is_on c.heading.name side) (class_methods d) (imaged_methods cs)
    ∙ ap (λ l. l ++ filter (is_on c.heading.name side) (imaged_methods cs)) (others_fail c.heading.name side d (λ same. at_place (λ x. d.heading.name ≢ x.heading.name) cs k c (first_apart d.heading.name cs sorted.0) at (sym same)))
    ∙ on_class cs k c side sorted.1 at

-- ---- each method stands in its class

pub imaged_at : (cs : List ClassView) (i : ℕ) (m : ImagedMethod) → slice_get (imaged_methods cs) i ≡ Some m → (k : ℕ) × (c : ClassView) × (slice_get cs k ≡ Some c) × (c.heading.name ≡ m.class_name)
imaged_at [] i m at = absurd (let bad : None ≡ Some m = at in cc)
imaged_at (c ∷ cs) i m at = either (class_methods c) i at (λ x at. x) (λ j at. let r = imaged_at cs j m at in (suc r.0, r.1, r.2, r.3)) (λ j at. (0, c, refl, named j at))
  where
    one_side : (s : Side) (ms : List MethodView) (j : ℕ) → slice_get (methods_on c s ms) j ≡ Some m → c.heading.name ≡ m.class_name
    one_side s [] j at = absurd (let bad : None ≡ Some m = at in cc)
    one_side s (x ∷ xs) zero at = ap (λ (y : ImagedMethod). y.class_name) (one_value (Some (imaged c s x)) (imaged c s x) m refl at)
    one_side s (x ∷ xs) (suc j) at = one_side s xs j at

    either : {P : Type 0} (ms : List ImagedMethod) (j : ℕ) → slice_get (ms ++ imaged_methods cs) j ≡ Some m → (P → P → P) → ((l : ℕ) → slice_get (imaged_methods cs) l ≡ Some m → P) → ((l : ℕ) → slice_get ms l ≡ Some m → P) → P
    either [] j at both later here = later j at
    either (x ∷ xs) zero at both later here = here 0 at
    either (x ∷ xs) (suc j) at both later here = either xs j at both later (λ l at. here (suc l) at)

    two : (ms ns : List ImagedMethod) (j : ℕ) → slice_get (ms ++ ns) j ≡ Some m → ((l : ℕ) → slice_get ms l ≡ Some m → c.heading.name ≡ m.class_name) → ((l : ℕ) → slice_get ns l ≡ Some m → c.heading.name ≡ m.class_name) → c.heading.name ≡ m.class_name
    two [] ns j at first second = second j at
    two (x ∷ xs) ns zero at first second = first 0 at
    two (x ∷ xs) ns (suc j) at first second = two xs ns j at (λ l at. first (suc l) at) second

    named : (j : ℕ) → slice_get (class_methods c) j ≡ Some m → c.heading.name ≡ m.class_name
    named j at = two (methods_on c Instance c.instance) (methods_on c Class c.class) j at (one_side Instance c.instance) (one_side Class c.class)

-- ---- what passes a test stands in the list, and the other way

pub kept_at : {X : Type 0} (t : X → Bool) (xs : List X) (i : ℕ) (x : X) → slice_get xs i ≡ Some x → t x ≡ true → (j : ℕ) × (slice_get (filter t xs) j ≡ Some x)
kept_at t [] i x at passes = absurd (let bad : None ≡ Some x = at in cc)
kept_at t (y ∷ ys) zero x at passes =
    let same : y ≡ x = one_value (Some y) y x refl at in
    (0, ap (λ b. slice_get (cond b (y ∷ filter t ys) (filter t ys)) 0) (ap t same ∙ passes) ∙ ap Some same)
kept_at {X} t (y ∷ ys) (suc i) x at passes = go (t y) (kept_at t ys i x at passes)
  where
    go : (b : Bool) → (j : ℕ) × (slice_get (filter t ys) j ≡ Some x) → (j : ℕ) × (slice_get (cond b (y ∷ filter t ys) (filter t ys)) j ≡ Some x)
    go true r = (suc r.0, r.1)
    go false r = r

pub stood_at : {X : Type 0} (t : X → Bool) (xs : List X) (j : ℕ) (x : X) → slice_get (filter t xs) j ≡ Some x → (i : ℕ) × (slice_get xs i ≡ Some x) × (t x ≡ true)
stood_at t [] j x at = absurd (let bad : None ≡ Some x = at in cc)
stood_at {X} t (y ∷ ys) j x at = go (t y) refl j at (stood_at t ys)
  where
    go : (b : Bool) → t y ≡ b → (j : ℕ) → slice_get (cond b (y ∷ filter t ys) (filter t ys)) j ≡ Some x → ((j : ℕ) (z : X) → slice_get (filter t ys) j ≡ Some z → (i : ℕ) × (slice_get ys i ≡ Some z) × (t z ≡ true))
        → (i : ℕ) × (slice_get (y ∷ ys) i ≡ Some x) × (t x ≡ true)
    go true is zero at more = (0, at, ap t (sym (one_value (Some y) y x refl at)) ∙ is)
    go true is (suc j) at more = let r = more j x at in (suc r.0, r.1, r.2)
    go false is j at more = let r = more j x at in (suc r.0, r.1, r.2)

-- ---- the groups of the classes are the whole

module _ {X : Type 0} (f : X → ImagedMethod) where
  abbrev pub group : List X → ClassView → List X
  group xs c = filter (λ x. is_on c.heading.name Instance (f x)) xs ++ filter (λ x. is_on c.heading.name Class (f x)) xs

  none_of : (name : Name) (side : Side) (cs : List ClassView) (xs : List X) → list_map f xs ≡ imaged_methods cs → AllByRecursion (λ c. name ≢ c.heading.name) cs → filter (λ x. is_on name side (f x)) xs ≡ []
  none_of name side cs xs same apart = nothing_seen f (filter (λ x. is_on name side (f x)) xs) (sym (passes_of_map (is_on name side) f xs) ∙ ap (filter (is_on name side)) same ∙ none_later name side cs apart)

  pub groups_are_all : (cs : List ClassView) (xs : List X) → IsStrictlySortedBy order (names_of cs) → list_map f xs ≡ imaged_methods cs → flat_map (group xs) cs ≡ xs
  unfolding IsStrictlySortedBy
  groups_are_all [] xs sorted same = sym (nothing_seen f xs same)
  groups_are_all (c ∷ cs) xs sorted same =
      let all = parts_seen f (class_methods c) (imaged_methods cs) xs same in
      let own = parts_seen f (methods_on c Instance c.instance) (methods_on c Class c.class) all.0 all.3 in
      let name : Name = c.heading.name in
      let later : AllByRecursion (λ x. name ≢ x.heading.name) cs = first_apart name cs sorted.0 in
      let whole : xs ≡ (own.0 ++ own.1) ++ all.1 = all.2 ∙ ap (λ l. l ++ all.1) own.2 in
      let here : group xs c ≡ own.0 ++ own.1 =
      λ i. (ap (filter (λ x. is_on name Instance (f x))) whole ∙ passes_apart (λ x. is_on name Instance (f x)) (own.0 ++ own.1) all.1
      ∙ (λ j. (passes_apart (λ x. is_on name Instance (f x)) own.0 own.1
      ∙ (λ l. whole_seen f (is_on name Instance) (imaged c Instance) own.0 c.instance own.3 (here_on c Instance) l ++ none_seen f (is_on name Instance) (imaged c Class) own.1 c.class own.4 (λ m. other_side name c Instance Class m refl) l)
      ∙ append-nil own.0) j ++ none_of name Instance cs all.1 all.4 later j)
      ∙ append-nil own.0) i
      ++ (ap (filter (λ x. is_on name Class (f x))) whole ∙ passes_apart (λ x. is_on name Class (f x)) (own.0 ++ own.1) all.1
      ∙ (λ j. (passes_apart (λ x. is_on name Class (f x)) own.0 own.1
      ∙ (λ l. none_seen f (is_on name Class) (imaged c Instance) own.0 c.instance own.3 (λ m. other_side name c Class Instance m refl) l ++ whole_seen f (is_on name Class) (imaged c Class) own.1 c.class own.4 (here_on c Class) l)) j
      ++ none_of name Class cs all.1 all.4 later j)
      ∙ append-nil own.1) i in
      let others : flat_map (group xs) cs ≡ flat_map (group all.1) cs =
      same_pieces (group xs) (group all.1) cs (at_each (λ d. group xs d ≡ group all.1 d) cs (λ k d at.
      let differs : d.heading.name ≢ name = λ e. at_place (λ x. name ≢ x.heading.name) cs k d later at (sym e) in
      λ i. one_group own.0 own.1 all.1 d Instance differs whole own.3 own.4 i ++ one_group own.0 own.1 all.1 d Class differs whole own.3 own.4 i)) in
      (λ i. here i ++ (others ∙ groups_are_all cs all.1 sorted.1 all.4) i) ∙ sym whole
    where
      one_group : (ys zs rest : List X) (d : ClassView) (side : Side) → d.heading.name ≢ c.heading.name → xs ≡ (ys ++ zs) ++ rest → list_map f ys ≡ methods_on c Instance c.instance → list_map f zs ≡ methods_on c Class c.class
          → filter (λ x. is_on d.heading.name side (f x)) xs ≡ filter (λ x. is_on d.heading.name side (f x)) rest
      one_group ys zs rest d side differs whole first second =
          ap (filter (λ x. is_on d.heading.name side (f x))) whole ∙ passes_apart (λ x. is_on d.heading.name side (f x)) (ys ++ zs) rest
          ∙ ap (λ l. l ++ filter (λ x. is_on d.heading.name side (f x)) rest)
          (passes_apart (λ x. is_on d.heading.name side (f x)) ys zs
          ∙ (λ i. none_seen f (is_on d.heading.name side) (imaged c Instance) ys c.instance first (λ m. elsewhere d.heading.name c side Instance m differs) i
          ++ none_seen f (is_on d.heading.name side) (imaged c Class) zs c.class second (λ m. elsewhere d.heading.name c side Class m differs) i))
