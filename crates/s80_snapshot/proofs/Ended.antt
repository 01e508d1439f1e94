-- A system that has all methods of an image is what resuming answers; and what else it may answer.
use Rattle.std.proofs.Common.{◌≡◌, ◌∙◌, ◌<◌, ◌≤◌, ◌+◌, ◌++◌, ℕ, suc, zero, Bool, IsTrue, true, false, refl, sym, ap, subst, List, [], ◌∷◌, Option, Some, None, is_some, option_map, unwrap_or, length, map as list_map, slice_get, true≢false, arith}
use Rattle.std.specs.Prelude.{filter}
use Rattle.std.specs.FinMap as map
use Rattle.std.specs.List.{AllByRecursion, flat_map}
use Rattle.std.specs.List.Sorted.{IsStrictlySortedBy}
use Rattle.s80_base.specs.declared.names.Side.{Side}
use Rattle.s80_base.specs.declared.names.Side.TheVariants.{Instance, Class}
use Rattle.s80_dict.specs.Dict.{Methods}
use Rattle.s80_dict.specs.Table.{methods_at}
use Rattle.s80_class.specs.Classes.{Name, Classes, ClassRow}
use Rattle.s80_class.specs.Table.{IsNumberOf}
use Rattle.s80_code.specs.declared.code.Code.{Code}
use Rattle.s80_method.specs.Code.{IsMethodCode}
use Rattle.s80_apply.specs.Entries.{Entry, row_in, state_row}
use Rattle.s80_apply.specs.State.{MethodRow, StateOf}
use Rattle.s80_apply.specs.System.{IsSystemBy, SystemState}
use Rattle.s80_image.specs.declared.image.ClassHeading.{ClassHeading}
use Rattle.s80_image.specs.Classes.{ClassView}
use Rattle.s80_image.specs.Methods.{MethodView, code_of}
use Rattle.s80_image.specs.Together.{classes_by_name, row_of, superclass_of}
use Rattle.s80_snapshot.specs.Pictured.{CodedRow, CodedState, class_view, classes_view, coded_row, heading_view, method_view, methods_view, sources_of, sources_on}
use Rattle.s80_snapshot.specs.Resuming.{AreOrdered, IsOnWay, Sourced, coded_row_of, coded_state, is_on, names_of, outline, placed_row_of, selector_of, with_sources}
use Rattle.s80_snapshot.specs.Sources.{AreEachs, AreSourcesOf, ImagedMethod, IsResumed, IsSourceOf, imaged_methods, methods_on}
use Rattle.s80_snapshot.proofs.ClassPlaces.{class_entries, class_got}
use Rattle.s80_snapshot.proofs.Grouping.{group, groups_are_all, imaged, imaged_at, on_side, stood_at}
use Rattle.s80_snapshot.proofs.ImageMaps.{by_found, contained, entries_are, entries_by, found_one, got_one, no_such, no_value, one_named, one_value, order, same_named, seen}
use Rattle.s80_snapshot.proofs.OnePut.{found_entry}
use Rattle.s80_snapshot.proofs.OnWay.{coded_at, firsts_are, method_at, on_is, pairs_on, pairs_sorted, seconds_are, sourced_at}
use Rattle.s80_snapshot.proofs.PiecesAdded.{at_each, map_apart, map_of_map, pieces_of_map, same_map, same_pieces}
use Rattle.s80_snapshot.proofs.SameCodes.{HaveOneCode, HaveOneTree, one_code_of}

-- ---- as the image has them

view_of_row : (p : Sourced) → method_view (selector_of p.0, coded_row_of p) ≡ p.0.method
view_of_row p = refl

same_superclass : (name : Name) → unwrap_or (superclass_of name) [] ≡ name
same_superclass [] = refl
same_superclass (b ∷ bytes) = refl

same_heading : (h : ClassHeading) → heading_view h.name (row_of h) ≡ h
same_heading h = λ i. record { name = h.name; superclass = same_superclass h.superclass i; kind = h.kind; variables = h.variables; category = h.category; comment = h.comment }

module _ (cs : List ClassView) (ordered : AreOrdered cs) (sources : List (List ℕ)) (same : length (imaged_methods cs) ≡ length sources) where
  abbrev state : CodedState
  state = coded_state cs sources

  abbrev pairs : List Sourced
  pairs = with_sources (imaged_methods cs) sources

  abbrev on_pairs : Name → Side → List Sourced
  on_pairs name side = filter (λ p. is_on name side p.0) pairs

  entries_on : (j : ℕ) (c : ClassView) (side : Side) → slice_get cs j ≡ Some c
      → map.entries (state.methods c.heading.name side) ≡ entries_by (λ (p : Sourced). selector_of p.0) coded_row_of (on_pairs c.heading.name side)
  entries_on j c side at = entries_are (λ (p : Sourced). selector_of p.0) coded_row_of (on_pairs c.heading.name side) (pairs_sorted cs ordered sources same j c side at)

  same_methods : (j : ℕ) (c : ClassView) (side : Side) → slice_get cs j ≡ Some c → methods_view (state.methods c.heading.name side) ≡ on_side c side
  same_methods j c side at =
      ap (list_map method_view) (entries_on j c side at)
      ∙ map_of_map method_view (λ (p : Sourced). (selector_of p.0, coded_row_of p)) (on_pairs c.heading.name side)
      ∙ sym (map_of_map (λ (m : ImagedMethod). m.method) (λ (p : Sourced). p.0) (on_pairs c.heading.name side))
      ∙ ap (list_map (λ (m : ImagedMethod). m.method)) (pairs_on cs ordered sources same j c side at)
      ∙ map_of_map (λ (m : ImagedMethod). m.method) (imaged c side) (on_side c side)
      ∙ map_itself (on_side c side)
    where
      map_itself : {X : Type 0} (xs : List X) → list_map (λ x. x) xs ≡ xs
      map_itself [] = refl
      map_itself (x ∷ xs) = ap (λ l. x ∷ l) (map_itself xs)

  same_class : (j : ℕ) (c : ClassView) → slice_get cs j ≡ Some c → class_view state (c.heading.name, row_of c.heading) ≡ c
  same_class j c at = λ i. record { heading = same_heading c.heading i; instance = same_methods j c Instance at i; class = same_methods j c Class at i }

  classes_same : cs ≡ classes_view state
  classes_same =
      sym (ap (list_map (class_view state)) (class_entries cs ordered.sorted)
      ∙ map_of_map (class_view state) (λ c. (c.heading.name, row_of c.heading)) cs
      ∙ same_map (λ c. class_view state (c.heading.name, row_of c.heading)) (λ c. c) cs (at_each (λ c. class_view state (c.heading.name, row_of c.heading) ≡ c) cs same_class)
      ∙ map_itself cs)
    where
      map_itself : {X : Type 0} (xs : List X) → list_map (λ x. x) xs ≡ xs
      map_itself [] = refl
      map_itself (x ∷ xs) = ap (λ l. x ∷ l) (map_itself xs)

  abbrev source : CodedRow → List ℕ
  source m = m.row.source

  sources_there : (j : ℕ) (c : ClassView) (side : Side) → slice_get cs j ≡ Some c → sources_on source (state.methods c.heading.name side) ≡ list_map (λ (p : Sourced). p.1) (on_pairs c.heading.name side)
  sources_there j c side at =
      ap (list_map (λ (e : List ℕ × CodedRow). source e.1)) (entries_on j c side at)
      ∙ map_of_map (λ (e : List ℕ × CodedRow). source e.1) (λ (p : Sourced). (selector_of p.0, coded_row_of p)) (on_pairs c.heading.name side)

  abbrev sources_in : Name → List (List ℕ)
  sources_in name = sources_on source (state.methods name Instance) ++ sources_on source (state.methods name Class)

  sources_same : sources ≡ sources_of source state
  sources_same =
      sym (ap (flat_map (λ (e : Name × ClassRow). sources_in e.0)) (class_entries cs ordered.sorted)
      ∙ pieces_of_map (λ (e : Name × ClassRow). sources_in e.0) (λ c. (c.heading.name, row_of c.heading)) cs
      ∙ same_pieces (λ c. sources_in c.heading.name) (λ c. list_map (λ (p : Sourced). p.1) (group (λ (p : Sourced). p.0) pairs c)) cs
      (at_each (λ c. sources_in c.heading.name ≡ list_map (λ (p : Sourced). p.1) (group (λ (p : Sourced). p.0) pairs c)) cs (λ j c at.
      (λ i. sources_there j c Instance at i ++ sources_there j c Class at i) ∙ sym (map_apart (λ (p : Sourced). p.1) (on_pairs c.heading.name Instance) (on_pairs c.heading.name Class))))
      ∙ sym (map_of_pieces (λ (p : Sourced). p.1) (group (λ (p : Sourced). p.0) pairs) cs)
      ∙ ap (list_map (λ (p : Sourced). p.1)) (groups_are_all (λ (p : Sourced). p.0) cs pairs ordered.sorted (firsts_are (imaged_methods cs) sources same))
      ∙ seconds_are (imaged_methods cs) sources same)
    where
      map_of_pieces : {X Y Z : Type 0} (f : Y → Z) (g : X → List Y) (xs : List X) → list_map f (flat_map g xs) ≡ flat_map (λ x. list_map f (g x)) xs
      map_of_pieces f g [] = refl
      map_of_pieces f g (x ∷ xs) = map_apart f (g x) (flat_map g xs) ∙ ap (λ l. list_map f (g x) ++ l) (map_of_pieces f g xs)

  -- ---- as the system has them

  module _ (trees : HaveOneTree) (one_codes : HaveOneCode) (system : SystemState) (done : ℕ) (all : length (imaged_methods cs) ≤ done) (on : IsOnWay cs pairs done system) where
    within_done : (k : ℕ) (p : Sourced) → slice_get pairs k ≡ Some p → k < done
    within_done k p at = let here = stands (imaged_methods cs) k p.0 (method_at (imaged_methods cs) sources k p at) in omega (arith, here, all)
      where
        stands : (ms : List ImagedMethod) (i : ℕ) (m : ImagedMethod) → slice_get ms i ≡ Some m → i < length ms
        stands [] i m at = absurd (cc)
        stands (x ∷ ms) zero m at = omega arith
        stands (x ∷ ms) (suc i) m at = let r = stands ms i m at in omega (arith, r)

    -- the code of a method that is there
    code_shown : (number : ℕ) (name : Name) (side : Side) (selector : List ℕ) (entry : Entry) (k : ℕ) (p : Sourced) → IsNumberOf system.table.names number name → map.get (methods_at system.methods number side) selector ≡ Some entry
        → slice_get pairs k ≡ Some p → name ≡ p.0.class_name → side ≡ p.0.side → selector ≡ selector_of p.0 → entry.source ≡ p.1 → code_of entry.code ≡ p.0.method.code
    code_shown number name side selector entry k p named there at class_is side_is selector_is source_is =
        let below : k < done = within_done k p at in
        let some : 0 < done = omega (arith, below) in
        let has = on.codes some number side selector entry there in
        let class : has.class ≡ p.0.class_name = one_named (slice_get system.table.names number) has.class name has.named named ∙ class_is in
        let own = (on.put k p below at).0 in
        one_code_of trees one_codes (classes_by_name cs) p.0.class_name p.0.side (selector_of p.0) p.1 entry.code own.code
        (moved system.table.classes (classes_by_name cs) has.class p.0.class_name side p.0.side selector (selector_of p.0) entry.source p.1 entry.code (on.is.classes ∙ on.classes_are) class side_is selector_is source_is has.has_code.code)
        own.compiled ∙ own.code_is
      where
        moved : (one other : Classes) (n m : Name) (s t : Side) (k l x y : List ℕ) (code : Code) → one ≡ other → n ≡ m → s ≡ t → k ≡ l → x ≡ y → IsMethodCode one n s k x code → IsMethodCode other m t l y code
        moved one other n m s t k l x y code a b c d e is =
            subst (λ (z : Classes × (Name × (Side × (List ℕ × List ℕ)))). IsMethodCode z.0 z.1.0 z.1.1.0 z.1.1.1.0 z.1.1.1.1 code) {x = (one, (n, (s, (k, x))))} (λ i. (a i, (b i, (c i, (d i, e i))))) is

    -- the row of a method that is there
    row_shown : (number : ℕ) (name : Name) (side : Side) (selector : List ℕ) (row : CodedRow) → IsNumberOf system.table.names number name → map.get (state.methods name side) selector ≡ Some row
        → option_map coded_row (map.get (methods_at system.methods number side) selector) ≡ Some row
    row_shown number name side selector row named there =
        let one = got_one (λ (p : Sourced). selector_of p.0) coded_row_of (on_pairs name side) selector row there in
        let stood = stood_at (λ (q : Sourced). is_on name side q.0) pairs one.0 one.1 one.2 in
        let place = on_is name side one.1.0 stood.2 in
        one_shown number name side selector row named stood.0 one.1 stood.1 place.0 place.1 (sym one.3) one.4
      where
        one_shown : (number : ℕ) (name : Name) (side : Side) (selector : List ℕ) (row : CodedRow) → IsNumberOf system.table.names number name → (k : ℕ) (p : Sourced) → slice_get pairs k ≡ Some p → name ≡ p.0.class_name → side ≡ p.0.side
            → selector ≡ selector_of p.0 → coded_row_of p ≡ row → option_map coded_row (map.get (methods_at system.methods number side) selector) ≡ Some row
        one_shown number name side selector row named k p at class_is side_is selector_is row_is =
            let placed : map.get (on.placed.methods name side) selector ≡ Some (placed_row_of p.0 p.1) =
            (λ i. map.get (on.placed.methods (class_is i) (side_is i)) (selector_is i)) ∙ (on.put k p (within_done k p at) at).1 in
            let found = found_entry row_in (map.get (methods_at system.methods number side) selector) (placed_row_of p.0 p.1) ((on.has_places.methods number name side named).each selector ∙ placed) in
            shown found.0 found.1 found.2 (code_shown number name side selector found.0 k p named found.1 at class_is side_is selector_is (ap (λ r. r.source) found.2))
          where
            shown : (entry : Entry) → map.get (methods_at system.methods number side) selector ≡ Some entry → row_in entry ≡ placed_row_of p.0 p.1 → code_of entry.code ≡ p.0.method.code
                → option_map coded_row (map.get (methods_at system.methods number side) selector) ≡ Some row
            shown entry got placed code = ap (option_map coded_row) got ∙ (λ i. Some (record { row = placed i; code = code i })) ∙ ap Some row_is

    none_shown : (number : ℕ) (name : Name) (side : Side) (selector : List ℕ) → IsNumberOf system.table.names number name → map.get (state.methods name side) selector ≡ None
        → option_map coded_row (map.get (methods_at system.methods number side) selector) ≡ None
    none_shown number name side selector named none = by_found (map.get (methods_at system.methods number side) selector)
        (λ absent. ap (option_map coded_row) absent)
        (λ entry there.
        let kept : map.get (on.state.methods name side) selector ≡ Some (state_row entry) = sym ((on.is.methods number name side named).each selector) ∙ ap (option_map state_row) there in
        let outlined = contained (map.get ((outline cs).methods name side) selector) (on.within name side selector (ap is_some kept)) in
        let one = got_one selector_of (λ m. record { category = []; source = [] }) (filter (is_on name side) (imaged_methods cs)) selector outlined.0 outlined.1 in
        let stood = stood_at (is_on name side) (imaged_methods cs) one.0 one.1 one.2 in
        let place = on_is name side one.1 stood.2 in
        let s = source_at sources stood.0 (omega (arith, same, stands (imaged_methods cs) stood.0 one.1 stood.1)) in
        let coded = coded_at cs ordered sources same stood.0 (one.1, s.0) (sourced_at (imaged_methods cs) sources stood.0 one.1 s.0 stood.1 s.1) in
        no_value (map.get (state.methods name side) selector) (coded_row_of (one.1, s.0)) none
        (subst (λ (x : Name × (Side × List ℕ)). map.get (state.methods x.0 x.1.0) x.1.1 ≡ Some (coded_row_of (one.1, s.0))) {x = (one.1.class_name, (one.1.side, selector_of one.1))} (λ i. (sym place.0 i, (sym place.1 i, one.3 i))) coded))
      where
        stands : (ms : List ImagedMethod) (i : ℕ) (m : ImagedMethod) → slice_get ms i ≡ Some m → i < length ms
        stands [] i m at = absurd (cc)
        stands (x ∷ ms) zero m at = omega arith
        stands (x ∷ ms) (suc i) m at = let r = stands ms i m at in omega (arith, r)

        source_at : (ss : List (List ℕ)) (i : ℕ) → i < length ss → (s : List ℕ) × (slice_get ss i ≡ Some s)
        source_at [] i below = absurd (omega (arith, below))
        source_at (s ∷ ss) zero below = (s, refl)
        source_at (s ∷ ss) (suc i) below = source_at ss i (omega (arith, below))

    -- a name that no class has, has no methods
    none_elsewhere : (name : Name) (side : Side) → map.get (classes_by_name cs) name ≡ None → state.methods name side ≡ map.empty
    none_elsewhere name side none = same_named (state.methods name side) map.empty (λ selector. by_found (map.get (state.methods name side) selector)
        (λ absent. absent ∙ sym (map.get-empty order selector))
        (λ row there.
        let one = got_one (λ (p : Sourced). selector_of p.0) coded_row_of (on_pairs name side) selector row there in
        let stood = stood_at (λ (q : Sourced). is_on name side q.0) pairs one.0 one.1 one.2 in
        let own = imaged_at cs stood.0 one.1.0 (method_at (imaged_methods cs) sources stood.0 one.1 stood.1) in
        let named : own.1.heading.name ≡ name = own.3 ∙ sym (on_is name side one.1.0 stood.2).0 in
        no_value (map.get (classes_by_name cs) name) (row_of own.1.heading) none (ap (map.get (classes_by_name cs)) (sym named) ∙ class_got cs own.0 own.1 ordered.sorted own.2)))

    shown_so : IsSystemBy coded_row system state
    shown_so = record {
      classes = on.is.classes ∙ on.classes_are;
      methods = λ number name side named. seen coded_row (methods_at system.methods number side) (state.methods name side) (λ selector. by_found (map.get (state.methods name side) selector)
          (λ none. none_shown number name side selector named none ∙ sym none)
          (λ row there. row_shown number name side selector row named there ∙ sym there));
      others = none_elsewhere;
    }

    pub resumed_so : IsResumed cs sources system
    resumed_so = record {
      state = state;
      shown = shown_so;
      by_name = refl;
      classes_are = classes_same;
      sources_are = sources_same;
    }

    pub sources_so : AreSourcesOf cs sources
    sources_so = each (imaged_methods cs) sources same (λ k p at. (on.put k p (within_done k p at) at).0)
      where
        each : (ms : List ImagedMethod) (ss : List (List ℕ)) → length ms ≡ length ss → ((k : ℕ) (p : Sourced) → slice_get (with_sources ms ss) k ≡ Some p → IsSourceOf (classes_by_name cs) p.0 p.1) → AreEachs (classes_by_name cs) ms ss
        each [] [] counted own = tt
        each [] (s ∷ ss) counted own = absurd (omega (arith, counted))
        each (m ∷ ms) [] counted own = absurd (omega (arith, counted))
        each (m ∷ ms) (s ∷ ss) counted own = (own 0 (m, s) refl, each ms ss (omega (arith, counted)) (λ k p at. own (suc k) p at))

-- ---- what isn't so

-- sources are as many as methods
pub as_many : (classes : Classes) (ms : List ImagedMethod) (ss : List (List ℕ)) → AreEachs classes ms ss → length ms ≡ length ss
as_many classes [] [] each = refl
as_many classes [] (s ∷ ss) each = absurd each
as_many classes (m ∷ ms) [] each = absurd each
as_many classes (m ∷ ms) (s ∷ ss) each = ap suc (as_many classes ms ss each.1)

pub source_of : (classes : Classes) (ms : List ImagedMethod) (ss : List (List ℕ)) (k : ℕ) (m : ImagedMethod) (s : List ℕ) → AreEachs classes ms ss → slice_get ms k ≡ Some m → slice_get ss k ≡ Some s → IsSourceOf classes m s
source_of classes [] ss k m s each at there = absurd (cc)
source_of classes (x ∷ ms) [] k m s each at there = absurd each
source_of classes (x ∷ ms) (y ∷ ss) zero m s each at there =
    subst (λ (p : Sourced). IsSourceOf classes p.0 p.1) (λ i. (one_value (Some x) x m refl at i, one_value (Some y) y s refl there i)) each.0
source_of classes (x ∷ ms) (y ∷ ss) (suc k) m s each at there = source_of classes ms ss k m s each.1 at there
