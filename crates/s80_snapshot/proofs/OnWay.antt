-- A system on its way: the methods of an image are put one after the other.
use Rattle.std.proofs.Common.{◌≡◌, ◌⊎◌, inl, inr, ◌∙◌, ◌+◌, ◌<◌, ◌≤◌, ◌&&◌, ◌||◌, ℕ, suc, zero, Bool, cond, true, false, refl, sym, ap, subst, List, [], ◌∷◌, Option, Some, None, is_some, length, map as list_map, slice_get, true≢false, arith}
use Rattle.std.specs.Prelude.{filter}
use Rattle.std.specs.FinMap as map
use Rattle.std.specs.List.{list_any}
use Rattle.std.specs.List.Sorted.{IsStrictlySortedBy}
use Rattle.std.specs.Str.{bytes_eq}
use Rattle.std.specs.Cmp.Lexicographic.{bytes_decides, nat_list_cmp_total}
use Rattle.s80_base.specs.declared.names.Side.{Side}
use Rattle.s80_base.specs.declared.names.Side.TheVariants.{Instance, Class}
use Rattle.s80_dict.specs.Dict.{Methods}
use Rattle.s80_dict.specs.Table.{same_side}
use Rattle.s80_class.specs.Classes.{Name, Classes}
use Rattle.s80_apply.specs.Accept.{len_with}
use Rattle.s80_apply.specs.Codes.{AreCodes}
use Rattle.s80_apply.specs.Placed.{PlacedRow}
use Rattle.s80_apply.specs.State.{MethodRow, State, put_method}
use Rattle.s80_apply.specs.System.{SystemState}
use Rattle.s80_image.specs.Classes.{ClassView}
use Rattle.s80_image.specs.Methods.{MethodView}
use Rattle.s80_image.specs.Together.{classes_by_name, row_of}
use Rattle.s80_snapshot.specs.Pictured.{CodedRow}
use Rattle.s80_snapshot.specs.Resuming.{AreListed, AreOrdered, IsBegun, IsOnWay, MayPut, Puts, Sourced, coded_row_of, coded_state, is_on, names_of, outline, placed_row_of, selector_of, selectors_of, state_row_of, with_sources}
use Rattle.s80_snapshot.specs.Sources.{ImagedMethod, IsSourceOf, imaged_methods, methods_on}
use Rattle.s80_snapshot.proofs.ClassPlaces.{class_got}
use Rattle.s80_snapshot.proofs.Grouping.{imaged, imaged_at, kept_at, on_class, on_side, side_itself, side_same, stood_at}
use Rattle.s80_snapshot.proofs.ImageMaps.{by_bytes, by_found, contained, entries_by, get_put, get_put_here, get_put_other, got_at, has_one, no_longer, one_value, order, same_bytes}
use Rattle.s80_snapshot.proofs.PiecesAdded.{at_place, count_of, map_got, map_of_map, passes_of_map}

-- ---- methods with their sources

pub firsts_are : (ms : List ImagedMethod) (ss : List (List ℕ)) → length ms ≡ length ss → list_map (λ (p : Sourced). p.0) (with_sources ms ss) ≡ ms
firsts_are [] ss same = refl
firsts_are (m ∷ ms) [] same = absurd (omega (arith, same))
firsts_are (m ∷ ms) (s ∷ ss) same = ap (λ l. m ∷ l) (firsts_are ms ss (omega (arith, same)))

pub seconds_are : (ms : List ImagedMethod) (ss : List (List ℕ)) → length ms ≡ length ss → list_map (λ (p : Sourced). p.1) (with_sources ms ss) ≡ ss
seconds_are [] [] same = refl
seconds_are [] (s ∷ ss) same = absurd (omega (arith, same))
seconds_are (m ∷ ms) [] same = absurd (omega (arith, same))
seconds_are (m ∷ ms) (s ∷ ss) same = ap (λ l. s ∷ l) (seconds_are ms ss (omega (arith, same)))

pub sourced_at : (ms : List ImagedMethod) (ss : List (List ℕ)) (k : ℕ) (m : ImagedMethod) (s : List ℕ) → slice_get ms k ≡ Some m → slice_get ss k ≡ Some s → slice_get (with_sources ms ss) k ≡ Some (m, s)
sourced_at [] ss k m s at there = absurd (cc)
sourced_at (x ∷ ms) [] k m s at there = absurd (cc)
sourced_at (x ∷ ms) (y ∷ ss) zero m s at there = λ i. Some (one_value (Some x) x m refl at i, one_value (Some y) y s refl there i)
sourced_at (x ∷ ms) (y ∷ ss) (suc k) m s at there = sourced_at ms ss k m s at there

pub method_at : (ms : List ImagedMethod) (ss : List (List ℕ)) (k : ℕ) (p : Sourced) → slice_get (with_sources ms ss) k ≡ Some p → slice_get ms k ≡ Some p.0
method_at [] ss k p at = absurd (cc)
method_at (x ∷ ms) [] k p at = absurd (cc)
method_at (x ∷ ms) (y ∷ ss) zero p at = ap (λ (q : Sourced). Some q.0) (one_value (Some (x, y)) (x, y) p refl at)
method_at (x ∷ ms) (y ∷ ss) (suc k) p at = method_at ms ss k p at

-- ---- one method of an image

stands_on : (m : ImagedMethod) → is_on m.class_name m.side m ≡ true
stands_on m = ap (λ b. b && same_side m.side m.side) (same_bytes m.class_name) ∙ side_itself m.side

pub on_is : (name : Name) (side : Side) (m : ImagedMethod) → is_on name side m ≡ true → (name ≡ m.class_name) × (side ≡ m.side)
on_is name side m is = go (bytes_eq name m.class_name) (same_side side m.side) refl refl is
  where
    go : (a b : Bool) → bytes_eq name m.class_name ≡ a → same_side side m.side ≡ b → (a && b) ≡ true → (name ≡ m.class_name) × (side ≡ m.side)
    go true b named sided both = ((bytes_decides name m.class_name).0 named, side_same side m.side (sided ∙ both))
    go false b named sided both = absurd (true≢false (sym both))

any_at : {X : Type 0} (p : X → Bool) (xs : List X) (k : ℕ) (x : X) → slice_get xs k ≡ Some x → p x ≡ true → list_any p xs ≡ true
any_at p [] k x at is = absurd (cc)
any_at p (y ∷ ys) zero x at is = go (p y) (ap p (one_value (Some y) y x refl at) ∙ is)
  where
    go : (b : Bool) → b ≡ true → (b || list_any p ys) ≡ true
    go true e = refl
    go false e = absurd (true≢false (sym e))
any_at p (y ∷ ys) (suc k) x at is = go (p y) (any_at p ys k x at is)
  where
    go : (b : Bool) → list_any p ys ≡ true → (b || list_any p ys) ≡ true
    go true e = refl
    go false e = e

module _ (cs : List ClassView) (ordered : AreOrdered cs) where
  abbrev methods : List ImagedMethod
  methods = imaged_methods cs

  -- its class
  own_class : (k : ℕ) (m : ImagedMethod) → slice_get methods k ≡ Some m → (j : ℕ) × (c : ClassView) × (slice_get cs j ≡ Some c) × (c.heading.name ≡ m.class_name)
  own_class k m at = imaged_at cs k m at

  pub own_listed : (j : ℕ) (c : ClassView) (side : Side) → slice_get cs j ≡ Some c → AreListed (on_side c side)
  own_listed j c side at = go side (at_place (λ x. AreListed x.instance × AreListed x.class) cs j c ordered.methods at)
    where
      go : (s : Side) → AreListed c.instance × AreListed c.class → AreListed (on_side c s)
      go Instance both = both.0
      go Class both = both.1

  -- those of its side and class
  pub beside : (k : ℕ) (m : ImagedMethod) (side : Side) → slice_get methods k ≡ Some m → (j : ℕ) × (c : ClassView) × (slice_get cs j ≡ Some c) × (filter (is_on m.class_name side) methods ≡ methods_on c side (on_side c side))
  beside k m side at =
      let own = own_class k m at in
      (own.0, own.1, own.2, ap (λ n. filter (is_on n side) methods) (sym own.3) ∙ on_class cs own.0 own.1 side ordered.sorted own.2)

  pub class_there : (k : ℕ) (m : ImagedMethod) → slice_get methods k ≡ Some m → map.contains_key (classes_by_name cs) m.class_name ≡ true
  class_there k m at =
      let own = own_class k m at in
      ap (map.contains_key (classes_by_name cs)) (sym own.3) ∙ ap is_some (class_got cs own.0 own.1 ordered.sorted own.2)

  abbrev rows_on : Name → Side → List (List ℕ × MethodRow)
  rows_on name side = entries_by selector_of (λ m. record { category = []; source = [] }) (filter (is_on name side) methods)

  pub outlined : (k : ℕ) (m : ImagedMethod) → slice_get methods k ≡ Some m → map.contains_key ((outline cs).methods m.class_name m.side) (selector_of m) ≡ true
  outlined k m at =
      let kept = kept_at (is_on m.class_name m.side) methods k m at (stands_on m) in
      has_one selector_of (λ x. record { category = []; source = [] }) (filter (is_on m.class_name m.side) methods) (selector_of m)
      ∙ any_at (λ x. bytes_eq (selector_of x) (selector_of m)) (filter (is_on m.class_name m.side) methods) kept.0 m kept.1 (same_bytes (selector_of m))

  -- ---- there is room for it

  room_for : (k : ℕ) (m : ImagedMethod) (state : State) → slice_get methods k ≡ Some m
      → ((name : Name) (side : Side) (selector : List ℕ) → map.contains_key (state.methods name side) selector ≡ true → map.contains_key ((outline cs).methods name side) selector ≡ true)
      → len_with (selector_of m) (state.methods m.class_name m.side) ≤ 16384
  room_for k m state at within =
      let own : Methods MethodRow = state.methods m.class_name m.side in
      let row : MethodRow = record { category = []; source = [] } in
      let one = beside k m m.side at in
      let rows = rows_on m.class_name m.side in
      let most : map.len (map.insert own (selector_of m) row) ≤ length rows =
      no_longer rows (map.insert own (selector_of m) row) (λ q v is.
      sym (ap is_some (map.get-from_entries nat_list_cmp_total rows q))
      ∙ by_bytes q (selector_of m)
      (λ same. ap (map.contains_key ((outline cs).methods m.class_name m.side)) same ∙ outlined k m at)
      (λ ne. within m.class_name m.side q (ap is_some (sym (get_put_other own (selector_of m) row q ne) ∙ is)))) in
      let counted : length rows ≡ length (on_side one.1 m.side) =
      count_of (λ x. (selector_of x, row)) (filter (is_on m.class_name m.side) methods) ∙ ap length one.3 ∙ count_of (imaged one.1 m.side) (on_side one.1 m.side) in
      let few : length (on_side one.1 m.side) ≤ 16384 = (own_listed one.0 one.1 m.side one.2).few in
      omega (arith, most, counted, few, map.len-insert nat_list_cmp_total own (selector_of m) row)

  pub may_put : (pairs : List Sourced) (k : ℕ) (m : ImagedMethod) (system : SystemState) → slice_get methods k ≡ Some m → IsOnWay cs pairs k system → MayPut m system
  may_put pairs k m system at on = record {
    state = on.state;
    is = on.is;
    class = ap (λ (x : Classes). map.contains_key x m.class_name) on.classes_are ∙ class_there k m at;
    few = room_for k m on.state at on.within;
  }

  -- ---- each is found at its place

  module _ (sources : List (List ℕ)) (same : length methods ≡ length sources) where
    abbrev pairs : List Sourced
    pairs = with_sources methods sources

    abbrev on_pairs : Name → Side → List Sourced
    on_pairs name side = filter (λ p. is_on name side p.0) pairs

    -- those of one side of a class are in order
    pub pairs_on : (j : ℕ) (c : ClassView) (side : Side) → slice_get cs j ≡ Some c → list_map (λ (p : Sourced). p.0) (on_pairs c.heading.name side) ≡ methods_on c side (on_side c side)
    pairs_on j c side at =
        sym (passes_of_map (is_on c.heading.name side) (λ (p : Sourced). p.0) pairs) ∙ ap (filter (is_on c.heading.name side)) (firsts_are methods sources same) ∙ on_class cs j c side ordered.sorted at

    pub pairs_sorted : (j : ℕ) (c : ClassView) (side : Side) → slice_get cs j ≡ Some c → IsStrictlySortedBy order (list_map (λ (p : Sourced). selector_of p.0) (on_pairs c.heading.name side))
    pairs_sorted j c side at =
        subst (IsStrictlySortedBy order)
        (sym (sym (map_of_map selector_of (λ (p : Sourced). p.0) (on_pairs c.heading.name side)) ∙ ap (list_map selector_of) (pairs_on j c side at) ∙ map_of_map selector_of (imaged c side) (on_side c side)))
        (own_listed j c side at).sorted

    pub coded_at : (k : ℕ) (p : Sourced) → slice_get pairs k ≡ Some p → map.get ((coded_state cs sources).methods p.0.class_name p.0.side) (selector_of p.0) ≡ Some (coded_row_of p)
    coded_at k p at =
        let own = own_class k p.0 (method_at methods sources k p at) in
        let kept = kept_at (λ (q : Sourced). is_on p.0.class_name p.0.side q.0) pairs k p at (stands_on p.0) in
        let sorted = subst (λ n. IsStrictlySortedBy order (list_map (λ (q : Sourced). selector_of q.0) (on_pairs n p.0.side))) own.3 (pairs_sorted own.0 own.1 p.0.side own.2) in
        got_at (λ (q : Sourced). selector_of q.0) coded_row_of (on_pairs p.0.class_name p.0.side) kept.0 p sorted kept.1

    -- what is put at the place of one is its own row
    one_row : (j k : ℕ) (p q : Sourced) → slice_get pairs j ≡ Some p → slice_get pairs k ≡ Some q → p.0.class_name ≡ q.0.class_name → p.0.side ≡ q.0.side → selector_of p.0 ≡ selector_of q.0
        → placed_row_of p.0 p.1 ≡ placed_row_of q.0 q.1
    one_row j k p q at there class side selector =
        ap (λ (r : CodedRow). r.row)
        (one_value (map.get ((coded_state cs sources).methods q.0.class_name q.0.side) (selector_of q.0)) (coded_row_of p) (coded_row_of q)
        (subst (λ (x : Name × (Side × List ℕ)). map.get ((coded_state cs sources).methods x.0 x.1.0) x.1.1 ≡ Some (coded_row_of p)) (λ i. (class i, (side i, selector i))) (coded_at j p at))
        (coded_at k q there))

    -- ---- one more is put

    module _ (i : ℕ) (p : Sourced) (before now : SystemState) (at : slice_get pairs i ≡ Some p) (on : IsOnWay cs pairs i before) (puts : Puts p.0 p.1 before now) where
      abbrev place_of : Name → Side → Bool
      place_of name side = bytes_eq name p.0.class_name && same_side side p.0.side

      place_is : (name : Name) (side : Side) → place_of name side ≡ true → (name ≡ p.0.class_name) × (side ≡ p.0.side)
      place_is name side is = on_is name side p.0 is

      within_now : (name : Name) (side : Side) (selector : List ℕ)
          → map.contains_key ((put_method p.0.class_name p.0.side (selector_of p.0) (state_row_of p.0 p.1) on.state).methods name side) selector ≡ true → map.contains_key ((outline cs).methods name side) selector ≡ true
      within_now name side selector = go (place_of name side) refl
        where
          go : (b : Bool) → place_of name side ≡ b → map.contains_key (cond b (map.insert (on.state.methods name side) (selector_of p.0) (state_row_of p.0 p.1)) (on.state.methods name side)) selector ≡ true
              → map.contains_key ((outline cs).methods name side) selector ≡ true
          go false is there = on.within name side selector there
          go true is there = by_bytes selector (selector_of p.0)
              (λ same.
              let here = place_is name side is in
              subst (λ (x : Name × (Side × List ℕ)). map.contains_key ((outline cs).methods x.0 x.1.0) x.1.1 ≡ true) (λ j. (sym here.0 j, (sym here.1 j, sym same j))) (outlined i p.0 (method_at methods sources i p at)))
              (λ ne. on.within name side selector (ap is_some (sym (get_put_other (on.state.methods name side) (selector_of p.0) (state_row_of p.0 p.1) selector ne)) ∙ there))

      kept_put : (q : Sourced) → map.get (on.placed.methods q.0.class_name q.0.side) (selector_of q.0) ≡ Some (placed_row_of q.0 q.1)
          → (q.0.class_name ≡ p.0.class_name → q.0.side ≡ p.0.side → selector_of q.0 ≡ selector_of p.0 → placed_row_of q.0 q.1 ≡ placed_row_of p.0 p.1)
          → map.get ((put_method p.0.class_name p.0.side (selector_of p.0) (placed_row_of p.0 p.1) on.placed).methods q.0.class_name q.0.side) (selector_of q.0) ≡ Some (placed_row_of q.0 q.1)
      kept_put q there same_row = go (place_of q.0.class_name q.0.side) refl
        where
          go : (b : Bool) → place_of q.0.class_name q.0.side ≡ b
              → map.get (cond b (map.insert (on.placed.methods q.0.class_name q.0.side) (selector_of p.0) (placed_row_of p.0 p.1)) (on.placed.methods q.0.class_name q.0.side)) (selector_of q.0) ≡ Some (placed_row_of q.0 q.1)
          go false is = there
          go true is = by_bytes (selector_of q.0) (selector_of p.0)
              (λ same.
              let here = place_is q.0.class_name q.0.side is in
              ap (map.get (map.insert (on.placed.methods q.0.class_name q.0.side) (selector_of p.0) (placed_row_of p.0 p.1))) same
              ∙ get_put_here (on.placed.methods q.0.class_name q.0.side) (selector_of p.0) (placed_row_of p.0 p.1) ∙ ap Some (sym (same_row here.0 here.1 same)))
              (λ ne. get_put_other (on.placed.methods q.0.class_name q.0.side) (selector_of p.0) (placed_row_of p.0 p.1) (selector_of q.0) ne ∙ there)

      here_put : map.get ((put_method p.0.class_name p.0.side (selector_of p.0) (placed_row_of p.0 p.1) on.placed).methods p.0.class_name p.0.side) (selector_of p.0) ≡ Some (placed_row_of p.0 p.1)
      here_put =
          ap (λ b. map.get (cond b (map.insert (on.placed.methods p.0.class_name p.0.side) (selector_of p.0) (placed_row_of p.0 p.1)) (on.placed.methods p.0.class_name p.0.side)) (selector_of p.0)) (stands_on p.0)
          ∙ get_put_here (on.placed.methods p.0.class_name p.0.side) (selector_of p.0) (placed_row_of p.0 p.1)

      pub one_further : IsSourceOf before.table.classes p.0 p.1 → AreCodes now.table now.methods → IsOnWay cs pairs (i + 1) now
      one_further source codes = record {
        state = put_method p.0.class_name p.0.side (selector_of p.0) (state_row_of p.0 p.1) on.state;
        is = puts.state on.state on.is;
        placed = put_method p.0.class_name p.0.side (selector_of p.0) (placed_row_of p.0 p.1) on.placed;
        has_places = puts.placed on.placed on.has_places;
        classes_are = on.classes_are;
        within = within_now;
        codes = λ some. codes;
        put = λ k q below there. go k q there (last k below);
      }
        where
          last : (k : ℕ) → k < i + 1 → (k < i) ⊎ (k ≡ i)
          last k below = order_of k i below
            where
              order_of : (a b : ℕ) → a < b + 1 → (a < b) ⊎ (a ≡ b)
              order_of zero zero l = inr refl
              order_of zero (suc b) l = inl (omega arith)
              order_of (suc a) zero l = absurd (omega (arith, l))
              order_of (suc a) (suc b) l = later (order_of a b (omega (arith, l)))
                where
                  later : (a < b) ⊎ (a ≡ b) → (suc a < suc b) ⊎ (suc a ≡ suc b)
                  later (inl less) = inl (omega (arith, less))
                  later (inr equal) = inr (ap suc equal)

          own_source : IsSourceOf (classes_by_name cs) p.0 p.1
          own_source = subst (λ (x : Classes). IsSourceOf x p.0 p.1) (on.is.classes ∙ on.classes_are) source

          go : (k : ℕ) (q : Sourced) → slice_get pairs k ≡ Some q → (k < i) ⊎ (k ≡ i)
              → IsSourceOf (classes_by_name cs) q.0 q.1
              × (map.get ((put_method p.0.class_name p.0.side (selector_of p.0) (placed_row_of p.0 p.1) on.placed).methods q.0.class_name q.0.side) (selector_of q.0) ≡ Some (placed_row_of q.0 q.1))
          go k q there (inl below) = let was = on.put k q below there in (was.0, kept_put q was.1 (λ class side selector. one_row k i q p there at class side selector))
          go k q there (inr equal) =
              let same_pair : p ≡ q = one_value (slice_get pairs i) p q at (subst (λ n. slice_get pairs n ≡ Some q) equal there) in
              subst (λ (x : Sourced). IsSourceOf (classes_by_name cs) x.0 x.1
              × (map.get ((put_method p.0.class_name p.0.side (selector_of p.0) (placed_row_of p.0 p.1) on.placed).methods x.0.class_name x.0.side) (selector_of x.0) ≡ Some (placed_row_of x.0 x.1))) same_pair (own_source, here_put)

pub begun_way : (cs : List ClassView) (pairs : List Sourced) (system : SystemState) → IsBegun cs system → IsOnWay cs pairs 0 system
begun_way cs pairs system begun = record {
  state = begun.state;
  is = begun.is;
  placed = begun.placed;
  has_places = begun.has_places;
  classes_are = begun.classes_are;
  within = begun.within;
  codes = λ some. absurd (omega (arith, some));
  put = λ k p below at. absurd (omega (arith, below));
}
