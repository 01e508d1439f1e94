-- A system that is resumed with the image and the sources of a list has the classes and methods of that list.
use Rattle.std.proofs.Common.{◌≡◌, ◌∙◌, ◌++◌, refl, sym, ap, subst, List, [], ◌∷◌, Option, Some, None, option_map, unwrap_or, map as list_map, true≢false}
use Rattle.std.specs.List.{AllByRecursion, flat_map}
use Rattle.std.specs.FinMap as map
use Rattle.s80_base.specs.declared.names.Side.{Side}
use Rattle.s80_base.specs.declared.names.Side.TheVariants.{Instance, Class}
use Rattle.s80_dict.specs.Dict.{Methods}
use Rattle.s80_dict.specs.Table.{methods_at}
use Rattle.s80_change.specs.declared.change.Change.{Change}
use Rattle.s80_form.specs.Name.{IsName}
use Rattle.s80_class.specs.Classes.{Name, ClassRow, Classes, IsLine, IsValid}
use Rattle.s80_apply.specs.Entries.{Entry, row_in, state_row}
use Rattle.s80_apply.specs.List.{classes_of, state_of}
use Rattle.s80_apply.specs.Named.{AreNamed}
use Rattle.s80_apply.specs.Placed.{ArePlacesOf, PlacedRow, PlacedState, placed_of, without_place}
use Rattle.s80_apply.specs.Seen.{AreSeen}
use Rattle.s80_apply.specs.State.{MethodRow, State}
use Rattle.s80_apply.specs.System.{HasPlaces, IsSystemOf, SystemState}
use Rattle.s80_image.specs.Image.{ImageView}
use Rattle.s80_image.specs.Together.{classes_by_name, superclass_of}
use Rattle.s80_snapshot.specs.OfList.{IsCoded, IsImageOf}
use Rattle.s80_snapshot.specs.Pictured.{CodedRow, CodedState, classes_view, coded_row, sources_of, sources_on}
use Rattle.s80_snapshot.specs.Sources.{IsResumed}
use Rattle.s80_snapshot.proofs.lemmas.NamedMaps.{by_found, each_holds, entries_seen, found_holds, none_named, seen_entries}
use Rattle.s80_snapshot.proofs.lemmas.SameViews.{IsAbove, by_name_again, each_same}
use Rattle.s80_snapshot.proofs.ListBounds.{bounds_of}

-- ---- superclasses

pub above_named : (classes : Classes) → AreNamed classes → IsValid classes → (name : Name) (row : ClassRow) → map.get classes name ≡ Some row → IsAbove row
above_named classes named valid name row is = go row.superclass refl
  where
    line : (es : List (Name × ClassRow)) → IsLine classes (Some name) es → row.superclass ≡ Some [] → ⊥
    line [] on empty = on
    line (e ∷ es) on empty =
        let same : e.1 ≡ row = (let both : Some e.1 ≡ Some row = sym on.1 ∙ is in cc) in
        above es (subst (λ o. IsLine classes o es) (ap (λ (r : ClassRow). r.superclass) same ∙ empty) on.2)
      where
        above : (es : List (Name × ClassRow)) → IsLine classes (Some []) es → ⊥
        above [] on = on
        above (e ∷ es) on = let bad : IsName [] = named [] e.1 on.1 in true≢false (sym bad)

    go : (o : Option Name) → row.superclass ≡ o → superclass_of (unwrap_or row.superclass []) ≡ row.superclass
    go None is_none = ap (λ o. superclass_of (unwrap_or o [])) is_none ∙ sym is_none
    go (Some []) is_empty = absurd (let line_of = valid name row is in line line_of.0 line_of.1 is_empty)
    go (Some (b ∷ bytes)) is_some = ap (λ o. superclass_of (unwrap_or o [])) is_some ∙ sym is_some

-- ---- a name that no class of a list has

nothing_placed : (placed : Methods PlacedRow) (rows : Methods MethodRow) → AreSeen without_place placed rows
    → ((selector : Name) → map.get rows selector ≡ None) → placed ≡ map.empty
nothing_placed placed rows seen none = none_named placed (λ q. without (map.get placed q) (seen.each q ∙ none q))
  where
    without : (o : Option PlacedRow) → option_map without_place o ≡ None → o ≡ None
    without None is = refl
    without (Some row) is = absurd (cc)

pub placed_elsewhere : (changes : List Change) → ArePlacesOf (placed_of changes) (state_of changes) → (name : Name) (side : Side)
    → map.get (placed_of changes).classes name ≡ None → (placed_of changes).methods name side ≡ map.empty
placed_elsewhere changes tied name side none =
    nothing_placed ((placed_of changes).methods name side) ((state_of changes).methods name side) (tied.methods name side)
    (λ selector. (bounds_of changes).others name side selector (ap (λ (c : Classes). map.get c name) (sym tied.classes) ∙ none))

nothing_coded : (coded : Methods CodedRow) (placed : Methods PlacedRow) → AreSeen (λ m. m.row) coded placed → placed ≡ map.empty → coded ≡ map.empty
nothing_coded coded placed seen none = none_named coded (λ q. without (map.get coded q) (seen.each q ∙ ap (λ (m : Methods PlacedRow). map.get m q) none ∙ map.get-empty _ q))
  where
    without : (o : Option CodedRow) → option_map {U = PlacedRow} (λ m. m.row) o ≡ None → o ≡ None
    without None is = refl
    without (Some row) is = absurd (cc)

-- ---- sources

mapped_twice : (es : List (Name × CodedRow))
    → list_map (λ (e : Name × PlacedRow). e.1.source) (seen_entries (λ (m : CodedRow). m.row) es) ≡ list_map (λ (e : Name × CodedRow). e.1.row.source) es
mapped_twice [] = refl
mapped_twice (e ∷ es) = ap (λ rest. e.1.row.source ∷ rest) (mapped_twice es)

sources_seen : (coded : Methods CodedRow) (placed : Methods PlacedRow) → AreSeen (λ m. m.row) coded placed
    → sources_on (λ (m : PlacedRow). m.source) placed ≡ sources_on (λ (m : CodedRow). m.row.source) coded
sources_seen coded placed seen = ap (list_map (λ (e : Name × PlacedRow). e.1.source)) (sym (entries_seen (λ (m : CodedRow). m.row) coded placed seen.each)) ∙ mapped_twice (map.entries coded)

pub sources_coded : (placed : PlacedState) (state : CodedState) → IsCoded placed state
    → sources_of (λ (m : PlacedRow). m.source) placed ≡ sources_of (λ (m : CodedRow). m.row.source) state
sources_coded placed state coded = λ i. flat_map (λ (e : Name × ClassRow). on e.0 Instance i ++ on e.0 Class i) (map.entries (sym coded.classes i))
  where
    on : (name : Name) (side : Side)
        → sources_on (λ (m : PlacedRow). m.source) (placed.methods name side) ≡ sources_on (λ (m : CodedRow). m.row.source) (state.methods name side)
    on name side = sources_seen (state.methods name side) (placed.methods name side) (coded.methods name side)

-- ---- the state of a resumed system

module _ (changes : List Change) (image : ImageView) (system : SystemState) (named : AreNamed (classes_of changes))
    (tied : ArePlacesOf (placed_of changes) (state_of changes)) (of : IsImageOf changes image)
    (resumed : IsResumed image.classes (sources_of (λ (m : PlacedRow). m.source) (placed_of changes)) system) where
  abbrev ours : CodedState
  ours = of.state

  abbrev theirs : CodedState
  theirs = resumed.state

  classes_list : ours.classes ≡ classes_of changes
  classes_list = of.coded.classes ∙ tied.classes

  all_above : AllByRecursion (λ e. IsAbove e.1) (map.entries ours.classes)
  all_above = each_holds (λ name row. IsAbove row) ours.classes (λ name row is. above_named (classes_of changes) named (bounds_of changes).valid name row (ap (λ (c : Classes). map.get c name) (sym classes_list) ∙ is))

  classes_same : theirs.classes ≡ ours.classes
  classes_same = resumed.by_name ∙ ap classes_by_name of.classes ∙ by_name_again ours all_above

  there_same : (name : Name) (row : ClassRow) → map.get ours.classes name ≡ Some row
      → (ours.methods name Instance ≡ theirs.methods name Instance) × (ours.methods name Class ≡ theirs.methods name Class)
  there_same =
      let views : classes_view ours ≡ classes_view theirs = sym of.classes ∙ resumed.classes_are in
      let sources : sources_of (λ (m : CodedRow). m.row.source) ours ≡ sources_of (λ (m : CodedRow). m.row.source) theirs = sym (sources_coded (placed_of changes) ours of.coded) ∙ resumed.sources_are in
      found_holds (λ name row. (ours.methods name Instance ≡ theirs.methods name Instance) × (ours.methods name Class ≡ theirs.methods name Class)) ours.classes
      (each_same ours.methods theirs.methods (map.entries ours.classes)
      (views ∙ ap (λ (c : Classes). classes_view (record { classes = c; methods = theirs.methods })) classes_same)
      (sources ∙ ap (λ (c : Classes). sources_of (λ (m : CodedRow). m.row.source) (record { classes = c; methods = theirs.methods })) classes_same))

  methods_same : (name : Name) (side : Side) → ours.methods name side ≡ theirs.methods name side
  methods_same name side = by_found (map.get ours.classes name)
      (λ none.
      nothing_coded (ours.methods name side) ((placed_of changes).methods name side) (of.coded.methods name side) (placed_elsewhere changes tied name side (ap (λ (c : Classes). map.get c name) (sym of.coded.classes) ∙ none))
      ∙ sym (resumed.shown.others name side (ap (λ (c : Classes). map.get c name) classes_same ∙ none)))
      (λ row is. on side (there_same name row is))
    where
      on : (side : Side) → (ours.methods name Instance ≡ theirs.methods name Instance) × (ours.methods name Class ≡ theirs.methods name Class)
          → ours.methods name side ≡ theirs.methods name side
      on Instance both = both.0
      on Class both = both.1

  seen_twice : (o : Option Entry) (coded : Option CodedRow) (placed : Option PlacedRow) → option_map coded_row o ≡ coded
      → option_map (λ (m : CodedRow). m.row) coded ≡ placed → option_map row_in o ≡ placed
  seen_twice None coded placed first second = ap (option_map (λ (m : CodedRow). m.row)) first ∙ second
  seen_twice (Some entry) coded placed first second = ap (option_map (λ (m : CodedRow). m.row)) first ∙ second

  pub has_places : HasPlaces system (placed_of changes)
  has_places = record {
    classes = resumed.shown.classes ∙ classes_same ∙ of.coded.classes;
    methods = λ number name side number_of.
        let here = resumed.shown.methods number name side number_of in
        let there = of.coded.methods name side in
        let same = methods_same name side in
        record {
          keys = here.keys ∙ ap (λ (m : Methods CodedRow). map.keys m) (sym same) ∙ there.keys;
          each = λ s. seen_twice (map.get (methods_at system.methods number side) s) (map.get (theirs.methods name side) s) (map.get ((placed_of changes).methods name side) s) (here.each s)
              (ap (λ (m : Methods CodedRow). option_map (λ (r : CodedRow). r.row) (map.get m s)) (sym same) ∙ there.each s);
        };
    others = placed_elsewhere changes tied;
  }

-- ---- a system with the places of a state has the state

shown_again : (entries : Option Entry) (rows : Option PlacedRow) (shown : Option MethodRow) → option_map row_in entries ≡ rows
    → option_map without_place rows ≡ shown → option_map state_row entries ≡ shown
shown_again None rows shown is then = ap (option_map without_place) is ∙ then
shown_again (Some entry) rows shown is then = ap (option_map without_place) is ∙ then

nothing_shown : (placed : Methods PlacedRow) (shown : Methods MethodRow) → placed ≡ map.empty → AreSeen without_place placed shown → shown ≡ map.empty
nothing_shown placed shown none seen =
    none_named shown (λ q. sym (seen.each q) ∙ ap (λ (m : Methods PlacedRow). option_map without_place (map.get m q)) none ∙ ap (option_map without_place) (map.get-empty _ q))

pub system_tied : (system : SystemState) (placed : PlacedState) (state : State) → ArePlacesOf placed state → HasPlaces system placed → IsSystemOf system state
system_tied system placed state tied has = record {
  classes = has.classes ∙ tied.classes;
  methods = λ number name side named.
      let here = has.methods number name side named in
      let there = tied.methods name side in
      record {
        keys = here.keys ∙ there.keys;
        each = λ s. shown_again (map.get (methods_at system.methods number side) s) (map.get (placed.methods name side) s) (map.get (state.methods name side) s) (here.each s) (there.each s);
      };
  others = λ name side none.
      nothing_shown (placed.methods name side) (state.methods name side) (has.others name side (ap (λ (c : Classes). map.get c name) tied.classes ∙ none)) (tied.methods name side);
}
