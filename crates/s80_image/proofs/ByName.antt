-- Lawful classes: what each has, and how they are found by their names.
use Rattle.std.proofs.Common.{◌≡◌, ◌≢◌, ◌≤◌, ◌<◌, ◌∙◌, ℕ, zero, suc, ◌+◌, ◌-◌, ◌==◌, Bool, true, false, cond, leb, true≢false, List, [], ◌∷◌, ◌++◌, length, get_or, Option, Some, None, refl, sym, ap, subst, arith, inl, inr}
use Rattle.std.specs.Prelude.{codes, slice_get, option_map, is_some}
use Rattle.std.specs.List.Sorted.{IsNonDecreasingBy, IsPartitionPoint}
use Rattle.std.specs.Str.{bytes_eq}
use Rattle.std.specs.declared.cmp.Ordering.{Ordering}
use Rattle.std.specs.declared.cmp.Ordering.TheVariants.{Less, Equal, Greater}
use Rattle.std.specs.Ordering.{nat_cmp, is_lt, ordering_index, ordering_reverse}
use Rattle.std.specs.Cmp.{tied_itself}
use Rattle.std.specs.Cmp.Lexicographic.{slice_cmp, nat_list_cmp_total, bytes_decides}
use Rattle.std.specs.FinMap as map
use Rattle.std.proofs.lemmas.Bool.{cases_lt}
use Rattle.std.proofs.lemmas.List.{length-append}
use Rattle.std.proofs.lemmas.Option.{slice_get-map, slice_get_within, slice_get-get_or}
use Rattle.s80_form.specs.Name.{is_class_name}
use Rattle.s80_class.specs.Classes.{ClassRow}
use Rattle.s80_class.proofs.lemmas.Lines.{get-inserted, bytes_eq-self, eq_not}
use Rattle.s80_image.specs.declared.image.ClassHeading.{ClassHeading}
use Rattle.s80_image.specs.declared.image.ImageClass.{ImageClass}
use Rattle.s80_image.specs.Format.{are_lawful}
use Rattle.s80_image.specs.Parts.{Name, is_above, last_of}
use Rattle.s80_image.specs.Classes.{ClassView, as_in, class, class_behind, class_of, classes, classes_of, heading, inst_vars_given, kernel_row, kind, kind_number, names, none_given, variables}
use Rattle.s80_image.specs.Superclasses.{IsPlaceOf}
use Rattle.s80_image.specs.Together.{classes_by_name, row_of}
use Rattle.s80_image.proofs.Laws.{of_both}

-- ---- one class

pub record HasLawfulHeading (last : Option Name) (h : ClassHeading) : Type 0 where
  pub named : is_class_name h.name ≡ true
  pub above : is_above last h.name ≡ true
  pub superclass : as_in (kernel_row h.name) (λ r. bytes_eq r.superclass h.superclass) ≡ true
  pub kind : as_in (kernel_row h.name) (λ r. kind_number h.kind == r.kind) ≡ true
  pub inst_vars : (names 64 (inst_vars_given (kernel_row h.name))).lawful h.variables.instance ≡ true
  pub class_vars : (names 256 (none_given (kernel_row h.name))).lawful h.variables.class ≡ true
  pub pools : (names 256 (none_given (kernel_row h.name))).lawful h.variables.pools ≡ true
  pub class_side_vars : (names 64 (none_given (kernel_row h.name))).lawful h.variables.class_side ≡ true
  pub category : as_in (kernel_row h.name) (λ _. bytes_eq (codes "Kernel") h.category) ≡ true

heading_lawful : (last : Option Name) (h : ClassHeading) → (heading last).lawful h ≡ true → HasLawfulHeading last h
unfolding heading kind variables
heading_lawful last h e =
    let a = of_both _ _ e in
    let n = of_both _ _ (of_both _ _ a.0).1 in
    let s = of_both _ _ a.1 in
    let k = of_both _ _ s.1 in
    let v = of_both _ _ k.1 in
    let c = of_both _ _ v.1 in
    let i = of_both _ _ v.0 in
    let m = of_both _ _ i.1 in
    let p = of_both _ _ m.1 in
    record {
      named = n.0;
      above = n.1;
      superclass = (of_both _ _ s.0).1;
      kind = (of_both _ _ (of_both _ _ k.0).1).1;
      inst_vars = i.0;
      class_vars = m.0;
      pools = p.0;
      class_side_vars = p.1;
      category = (of_both _ _ c.0).1;
    }

class_lawful : (last : Option Name) (c : ClassView) → (class last).lawful c ≡ true → HasLawfulHeading last c.heading
unfolding class
class_lawful last c e = heading_lawful last c.heading (of_both _ _ e).0

each_lawful : (before cs : List ClassView) → are_lawful class_behind before cs ≡ true → (i : ℕ) (c : ClassView) → slice_get cs i ≡ Some c → (last : Option Name) × HasLawfulHeading last c.heading
each_lawful before [] e i c at = absurd cc
each_lawful before (x ∷ cs) e zero c at =
    let o = of_both ((class_behind before).lawful x) (are_lawful class_behind (before ++ x ∷ []) cs) e in
    let same : x ≡ c = cc in
    (_, subst (λ (d : ClassView). HasLawfulHeading (option_map (λ c. c.heading.name) (last_of before)) d.heading) same (class_lawful (option_map (λ c. c.heading.name) (last_of before)) x o.0))
each_lawful before (x ∷ cs) e (suc i) c at =
    let o = of_both ((class_behind before).lawful x) (are_lawful class_behind (before ++ x ∷ []) cs) e in
    each_lawful (before ++ x ∷ []) cs o.1 i c at

-- ---- their order

R : Name → Name → Ordering
R = slice_cmp nat_cmp

is_less : (r : Ordering) → is_lt r ≡ true → r ≡ Less
is_less Less e = refl
is_less Equal e = absurd (true≢false (sym e))
is_less Greater e = absurd (true≢false (sym e))

-- each is above the one before it
abbrev Rises : Option Name → List ClassView → Type 0
Rises last [] = Unit {0}
Rises last (c ∷ cs) = (is_above last c.heading.name ≡ true) × Rises (Some c.heading.name) cs

pushed_at : (before : List ClassView) (c : ClassView) → slice_get (before ++ c ∷ []) (length before) ≡ Some c
pushed_at [] c = refl
pushed_at (x ∷ before) c = pushed_at before c

last_pushed : (before : List ClassView) (c : ClassView) → last_of (before ++ c ∷ []) ≡ Some c
last_pushed before c =
    let place : length (before ++ c ∷ []) - 1 ≡ length before = omega (arith, length-append before (c ∷ [])) in
    ap (slice_get (before ++ c ∷ [])) place ∙ pushed_at before c

rises : (before cs : List ClassView) → are_lawful class_behind before cs ≡ true → Rises (option_map (λ c. c.heading.name) (last_of before)) cs
rises before [] e = tt
rises before (x ∷ cs) e =
    let o = of_both ((class_behind before).lawful x) (are_lawful class_behind (before ++ x ∷ []) cs) e in
    let here = class_lawful (option_map (λ c. c.heading.name) (last_of before)) x o.0 in
    (here.above, subst (λ l. Rises (option_map (λ c. c.heading.name) l) cs) (last_pushed before x) (rises (before ++ x ∷ []) cs o.1))

all_above : (last : Name) (cs : List ClassView) → Rises (Some last) cs → (i : ℕ) (c : ClassView) → slice_get cs i ≡ Some c → R last c.heading.name ≡ Less
unfolding R
all_above last [] h i c at = absurd cc
all_above last (x ∷ cs) h zero c at = let same : x ≡ c = cc in is_less _ (ap (λ (d : ClassView). is_lt (slice_cmp nat_cmp last d.heading.name)) (sym same) ∙ h.0)
all_above last (x ∷ cs) h (suc i) c at = nat_list_cmp_total.trans last x.heading.name c.heading.name (is_less _ h.0) (all_above x.heading.name cs h.1 i c at)

in_order : (last : Option Name) (cs : List ClassView) → Rises last cs → (i j : ℕ) (c d : ClassView) → i < j → slice_get cs i ≡ Some c → slice_get cs j ≡ Some d → R c.heading.name d.heading.name ≡ Less
in_order last [] h i j c d lt p q = absurd cc
in_order last (x ∷ cs) h i zero c d lt p q = absurd (omega arith)
in_order last (x ∷ cs) h zero (suc j) c d lt p q =
    let same : x ≡ c = cc in
    subst (λ (k : ClassView). R k.heading.name d.heading.name ≡ Less) same (all_above x.heading.name cs h.1 j d q)
in_order last (x ∷ cs) h (suc i) (suc j) c d lt p q = in_order (Some x.heading.name) cs h.1 i j c d (omega arith) p q

apart : (a b : Name) → R a b ≡ Less → a ≢ b
unfolding R
apart a b less same =
    let tied : slice_cmp nat_cmp a a ≡ Equal = tied_itself nat_list_cmp_total a in
    let bad : Less ≡ Equal = sym less ∙ ap (slice_cmp nat_cmp a) (sym same) ∙ tied in
    cc

-- ---- found by their names

-- no class has this name
abbrev pub IsNone : List ClassView → Name → Type 0
IsNone cs q = (i : ℕ) (c : ClassView) → slice_get cs i ≡ Some c → c.heading.name ≢ q

pub none_named : (cs : List ClassView) (q : Name) → IsNone cs q → map.get (classes_by_name cs) q ≡ None
unfolding classes_by_name
none_named [] q none = map.get-empty (slice_cmp nat_cmp) q
none_named (x ∷ cs) q none =
    get-inserted (classes_by_name cs) x.heading.name (row_of x.heading) q
    ∙ ap (λ b. cond b (Some (row_of x.heading)) (map.get (classes_by_name cs) q)) (eq_not q x.heading.name (λ same. none 0 x refl (sym same)))
    ∙ none_named cs q (λ i c at. none (suc i) c at)

found_in : (last : Option Name) (cs : List ClassView) → Rises last cs → (i : ℕ) (c : ClassView) → slice_get cs i ≡ Some c → map.get (classes_by_name cs) c.heading.name ≡ Some (row_of c.heading)
unfolding classes_by_name
found_in last [] h i c at = absurd cc
found_in last (x ∷ cs) h zero c at =
    let same : x ≡ c = cc in
    subst (λ (d : ClassView). map.get (classes_by_name (x ∷ cs)) d.heading.name ≡ Some (row_of d.heading)) same
    (get-inserted (classes_by_name cs) x.heading.name (row_of x.heading) x.heading.name ∙ ap (λ b. cond b (Some (row_of x.heading)) (map.get (classes_by_name cs) x.heading.name)) (bytes_eq-self x.heading.name))
found_in last (x ∷ cs) h (suc i) c at =
    let ne : c.heading.name ≢ x.heading.name = λ same. apart x.heading.name c.heading.name (all_above x.heading.name cs h.1 i c at) (sym same) in
    get-inserted (classes_by_name cs) x.heading.name (row_of x.heading) c.heading.name
    ∙ ap (λ b. cond b (Some (row_of x.heading)) (map.get (classes_by_name cs) c.heading.name)) (eq_not c.heading.name x.heading.name ne)
    ∙ found_in (Some x.heading.name) cs h.1 i c at

counted_in : (last : Option Name) (cs : List ClassView) → Rises last cs → map.len (classes_by_name cs) ≡ length cs
unfolding classes_by_name
counted_in last [] h = map.len-empty (slice_cmp nat_cmp) ClassRow
counted_in last (x ∷ cs) h =
    let none : map.get (classes_by_name cs) x.heading.name ≡ None =
    none_named cs x.heading.name (λ i c at same. apart x.heading.name c.heading.name (all_above x.heading.name cs h.1 i c at) (sym same)) in
    map.len-insert nat_list_cmp_total (classes_by_name cs) x.heading.name (row_of x.heading)
    ∙ ap (λ o. cond (is_some o) (map.len (classes_by_name cs)) (map.len (classes_by_name cs) + 1)) none
    ∙ more (counted_in (Some x.heading.name) cs h.1)
  where
    more : map.len (classes_by_name cs) ≡ length cs → map.len (classes_by_name cs) + 1 ≡ suc (length cs)
    more e = omega (arith, e)

-- a class of the map is one of the list
pub class_of_row : (cs : List ClassView) (q : Name) (row : ClassRow) → map.get (classes_by_name cs) q ≡ Some row → (i : ℕ) × (c : ClassView) × (slice_get cs i ≡ Some c) × (c.heading.name ≡ q) × (row_of c.heading ≡ row)
unfolding classes_by_name
class_of_row [] q row is = let bad : None ≡ Some row = sym (map.get-empty (slice_cmp nat_cmp) q) ∙ is in cc
class_of_row (x ∷ cs) q row is =
    go (bytes_eq q x.heading.name) refl (λ g. class_of_row cs q row g) (sym (get-inserted (classes_by_name cs) x.heading.name (row_of x.heading) q) ∙ is)
  where
    go : (b : Bool) → bytes_eq q x.heading.name ≡ b
        → (map.get (classes_by_name cs) q ≡ Some row → (i : ℕ) × (c : ClassView) × (slice_get cs i ≡ Some c) × (c.heading.name ≡ q) × (row_of c.heading ≡ row))
        → cond b (Some (row_of x.heading)) (map.get (classes_by_name cs) q) ≡ Some row
        → (i : ℕ) × (c : ClassView) × (slice_get (x ∷ cs) i ≡ Some c) × (c.heading.name ≡ q) × (row_of c.heading ≡ row)
    go true e others g = (0, x, refl, sym ((bytes_decides q x.heading.name).0 e), (let same : row_of x.heading ≡ row = cc in same))
    go false e others g = let r = others g in (suc r.0, r.1, r.2, r.3, r.4)

-- ---- a lawful list

module _ (cs : List ClassView) (lawful : classes.lawful cs ≡ true) where
  all_lawful : are_lawful class_behind [] cs ≡ true
  unfolding classes
  all_lawful = (of_both _ _ lawful).1

  pub few : length cs ≤ 65536
  unfolding classes
  few = leb_yes (length cs) 65536 (of_both _ _ (of_both _ _ lawful).0).1
    where
      leb_yes : (a b : ℕ) → leb a b ≡ true → a ≤ b
      leb_yes a b e = grind (arith, e)

  pub lawful_at : (i : ℕ) (c : ClassView) → slice_get cs i ≡ Some c → (last : Option Name) × HasLawfulHeading last c.heading
  lawful_at i c at = each_lawful [] cs all_lawful i c at

  pub found_at : (i : ℕ) (c : ClassView) → slice_get cs i ≡ Some c → map.get (classes_by_name cs) c.heading.name ≡ Some (row_of c.heading)
  found_at i c at = found_in _ cs (rises [] cs all_lawful) i c at

  pub counted : map.len (classes_by_name cs) ≡ length cs
  counted = counted_in _ cs (rises [] cs all_lawful)

  pub ordered : (i j : ℕ) (c d : ClassView) → i < j → slice_get cs i ≡ Some c → slice_get cs j ≡ Some d → slice_cmp nat_cmp c.heading.name d.heading.name ≡ Less
  unfolding R
  ordered i j c d lt p q = in_order _ cs (rises [] cs all_lawful) i j c d lt p q

-- ---- sought by halves

abbrev pub sought : Name → ImageClass → Ordering
sought q c = slice_cmp nat_cmp c.heading.name q

rises_on : (a b q : Name) → slice_cmp nat_cmp a b ≡ Less → ordering_index (slice_cmp nat_cmp a q) ≤ ordering_index (slice_cmp nat_cmp b q)
rises_on a b q less =
    elim (slice_cmp nat_cmp a q) as (λ r. slice_cmp nat_cmp a q ≡ r → ordering_index r ≤ ordering_index (slice_cmp nat_cmp b q)) [
      | Less ↦ λ e. omega arith
      | Equal ↦ λ e.
          let back : slice_cmp nat_cmp b a ≡ Greater = nat_list_cmp_total.antisymm b a ∙ ap ordering_reverse less in
          let same : a ≡ q = map.slice_cmp-IsAntisymmetric map.nat_cmp-IsAntisymmetric a q e in
          let there : slice_cmp nat_cmp b q ≡ Greater = ap (slice_cmp nat_cmp b) (sym same) ∙ back in
          subst (λ r. 1 ≤ ordering_index r) (sym there) (omega arith)
      | Greater ↦ λ e.
          let back : slice_cmp nat_cmp q a ≡ Less = nat_list_cmp_total.antisymm q a ∙ ap ordering_reverse e in
          let far : slice_cmp nat_cmp q b ≡ Less = nat_list_cmp_total.trans q a b back less in
          let there : slice_cmp nat_cmp b q ≡ Greater = nat_list_cmp_total.antisymm b q ∙ ap ordering_reverse far in
          subst (λ r. 2 ≤ ordering_index r) (sym there) (omega arith)
    ] refl

module _ (xs : List ImageClass) where
  pub class_at : (i : ℕ) (x : ImageClass) → slice_get xs i ≡ Some x → slice_get (classes_of xs) i ≡ Some (class_of x)
  class_at i x at = slice_get-map class_of xs i ∙ ap (option_map class_of) at

  pub read_at : (i : ℕ) (d : ImageClass) → i < length xs → slice_get (classes_of xs) i ≡ Some (class_of (get_or xs i d))
  read_at i d lt = class_at i (get_or xs i d) (slice_get-get_or xs i d lt)

  module _ (q : Name) (lawful : classes.lawful (classes_of xs) ≡ true) where
    pub rises_to : IsNonDecreasingBy (λ y. ordering_index (sought q y)) xs
    rises_to i j d le lt =
        elim (cases_lt i j) as (λ _. ordering_index (sought q (get_or xs i d)) ≤ ordering_index (sought q (get_or xs j d))) [
          | inl below ↦ rises_on (get_or xs i d).heading.name (get_or xs j d).heading.name q (ordered (classes_of xs) lawful i j _ _ below (read_at i d (omega arith)) (read_at j d lt))
          | inr ge ↦ let same : i ≡ j = omega arith in subst (λ k. ordering_index (sought q (get_or xs i d)) ≤ ordering_index (sought q (get_or xs k d))) same (omega arith)
        ]

  module _ (q : Name) where
    pub stands_there : (i : ℕ) → i < length xs → ((d : ImageClass) → sought q (get_or xs i d) ≡ Equal) → IsPlaceOf (classes_of xs) q (Some i)
    stands_there i lt equal = go xs i lt equal
      where
        go : (ys : List ImageClass) (i : ℕ) → i < length ys → ((d : ImageClass) → sought q (get_or ys i d) ≡ Equal) → IsPlaceOf (classes_of ys) q (Some i)
        go [] i lt equal = absurd (omega arith)
        go (y ∷ ys) zero lt equal = (class_of y, refl, map.slice_cmp-IsAntisymmetric map.nat_cmp-IsAntisymmetric y.heading.name q (equal y))
        go (y ∷ ys) (suc i) lt equal = go ys i (omega arith) equal

    pub stands_nowhere : (i : ℕ) → IsPartitionPoint (λ y. sought q y ≡ Less) (λ y. sought q y ≡ Greater) xs i → IsPlaceOf (classes_of xs) q None
    stands_nowhere i split = none_named (classes_of xs) q none
      where
        not_equal : (x : ImageClass) (r : Ordering) → r ≢ Equal → sought q x ≡ r → x.heading.name ≢ q
        not_equal x r ne e same = ne (sym e ∙ ap (λ n. slice_cmp nat_cmp n q) same ∙ tied_itself nat_list_cmp_total q)

        here : (k : ℕ) (x : ImageClass) → slice_get xs k ≡ Some x → x.heading.name ≢ q
        here k x at =
            let lt : k < length xs = slice_get_within xs k x at in
            let is : get_or xs k x ≡ x = let e : Some (get_or xs k x) ≡ Some x = sym (slice_get-get_or xs k x lt) ∙ at in cc in
            elim (cases_lt k i) as (λ _. x.heading.name ≢ q) [
              | inl below ↦ not_equal x Less (λ e. let bad : Less ≡ Equal = e in cc) (subst (λ (y : ImageClass). sought q y ≡ Less) is (split.0 k x (omega arith) below))
              | inr ge ↦ not_equal x Greater (λ e. let bad : Greater ≡ Equal = e in cc) (subst (λ (y : ImageClass). sought q y ≡ Greater) is (split.1 k x ge lt))
            ]

        seen : (k : ℕ) (c : ClassView) (o : Option ImageClass) → slice_get xs k ≡ o → option_map class_of o ≡ Some c → c.heading.name ≢ q
        seen k c None at is = absurd cc
        seen k c (Some x) at is = let same : class_of x ≡ c = cc in subst (λ (d : ClassView). d.heading.name ≢ q) same (here k x at)

        none : IsNone (classes_of xs) q
        none k c at = seen k c (slice_get xs k) refl (sym (slice_get-map class_of xs k) ∙ at)
