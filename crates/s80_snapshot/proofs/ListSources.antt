-- The sources of the methods that a list makes are those of its image.
use Rattle.std.proofs.Common.{◌≡◌, ◌∙◌, ◌++◌, sym, ap, subst, List, [], ◌∷◌, Some, option_map, map as list_map}
use Rattle.std.specs.List.{AllByRecursion, flat_map}
use Rattle.std.specs.FinMap as map
use Rattle.s80_base.specs.declared.names.Side.{Side}
use Rattle.s80_base.specs.declared.names.Side.TheVariants.{Instance, Class}
use Rattle.s80_change.specs.declared.change.Change.{Change}
use Rattle.s80_class.specs.Classes.{Name, ClassRow, Classes}
use Rattle.s80_apply.specs.List.{classes_of, state_of}
use Rattle.s80_apply.specs.Named.{AreNamed}
use Rattle.s80_apply.specs.Placed.{ArePlacesOf, PlacedRow, placed_of, without_place}
use Rattle.s80_apply.specs.State.{MethodRow}
use Rattle.s80_image.specs.Classes.{ClassView}
use Rattle.s80_image.specs.Image.{ImageView}
use Rattle.s80_image.specs.Methods.{MethodView}
use Rattle.s80_image.specs.Together.{classes_by_name}
use Rattle.s80_snapshot.specs.OfList.{IsImageOf}
use Rattle.s80_snapshot.specs.Pictured.{CodedRow, CodedState, class_view, method_view, methods_view, sources_of, sources_on}
use Rattle.s80_snapshot.specs.Sources.{AreEachs, AreSourcesOf, ImagedMethod, IsSourceOf, imaged_methods, methods_on}
use Rattle.s80_snapshot.proofs.lemmas.NamedMaps.{Text, each_holds}
use Rattle.s80_snapshot.proofs.lemmas.SameViews.{IsAbove, by_name_again}
use Rattle.s80_snapshot.proofs.FiledMethods.{IsSourced}
use Rattle.s80_snapshot.proofs.lemmas.ResumedState.{above_named, sources_coded}
use Rattle.s80_snapshot.proofs.ListBounds.{bounds_of}

-- ---- lists

eachs_both : (classes : Classes) (ms ns : List ImagedMethod) (ss ts : List Text) → AreEachs classes ms ss → AreEachs classes ns ts
    → AreEachs classes (ms ++ ns) (ss ++ ts)
eachs_both classes [] ns [] ts first second = second
eachs_both classes [] ns (s ∷ ss) ts first second = absurd first
eachs_both classes (m ∷ ms) ns [] ts first second = absurd first
eachs_both classes (m ∷ ms) ns (s ∷ ss) ts first second = (first.0, eachs_both classes ms ns ss ts first.1 second)

abbrev imaged : Name → Side → Text × CodedRow → ImagedMethod
imaged name side e = record { class_name = name; side = side; method = method_view e }

abbrev in_image : Name → Side → MethodView → ImagedMethod
in_image name side m = record { class_name = name; side = side; method = m }

eachs_on : (classes : Classes) (name : Name) (side : Side) (es : List (Text × CodedRow))
    → AllByRecursion (λ e. IsSourceOf classes (imaged name side e) e.1.row.source) es
    → AreEachs classes (list_map (in_image name side) (list_map method_view es)) (list_map (λ (e : Text × CodedRow). e.1.row.source) es)
eachs_on classes name side [] all = tt
eachs_on classes name side (e ∷ es) all = (all.0, eachs_on classes name side es all.1)

abbrev in_class : ClassView → List ImagedMethod
in_class c = methods_on c Instance c.instance ++ methods_on c Class c.class

abbrev row_source : CodedRow → Text
row_source m = m.row.source

abbrev class_sources : CodedState → Name × ClassRow → List Text
class_sources state e = sources_on row_source (state.methods e.0 Instance) ++ sources_on row_source (state.methods e.0 Class)

eachs_in : (state : CodedState) (es : List (Name × ClassRow))
    → AllByRecursion (λ e. AreEachs state.classes (in_class (class_view state e)) (class_sources state e)) es
    → AreEachs state.classes (flat_map in_class (list_map (class_view state) es)) (flat_map (class_sources state) es)
eachs_in state [] all = tt
eachs_in state (e ∷ es) all =
    eachs_both state.classes (in_class (class_view state e)) (flat_map in_class (list_map (class_view state) es)) (class_sources state e) (flat_map (class_sources state) es) all.0 (eachs_in state es all.1)

-- ---- the methods of a list

module _ (changes : List Change) (image : ImageView) (named : AreNamed (classes_of changes)) (tied : ArePlacesOf (placed_of changes) (state_of changes))
    (of : IsImageOf changes image) where
  abbrev ours : CodedState
  ours = of.state

  pub classes_list : ours.classes ≡ classes_of changes
  classes_list = of.coded.classes ∙ tied.classes

  pub class_got : (name : Name) (row : ClassRow) → map.get ours.classes name ≡ Some row → map.get (classes_of changes) name ≡ Some row
  class_got name row is = ap (λ (c : Classes). map.get c name) (sym classes_list) ∙ is

  all_above : AllByRecursion (λ e. IsAbove e.1) (map.entries ours.classes)
  all_above = each_holds (λ name row. IsAbove row) ours.classes (λ name row is. above_named (classes_of changes) named (bounds_of changes).valid name row (class_got name row is))

  pub by_name : classes_by_name image.classes ≡ ours.classes
  by_name = ap classes_by_name of.classes ∙ by_name_again ours all_above

  -- what the list's state has of a method
  pub placed_got : (name : Name) (side : Side) (selector : Text) (m : CodedRow) → map.get (ours.methods name side) selector ≡ Some m
      → map.get ((placed_of changes).methods name side) selector ≡ Some m.row
  placed_got name side selector m is = sym ((of.coded.methods name side).each selector) ∙ ap (option_map (λ (r : CodedRow). r.row)) is

  pub row_got : (name : Name) (side : Side) (selector : Text) (m : CodedRow) → map.get (ours.methods name side) selector ≡ Some m
      → map.get ((state_of changes).methods name side) selector ≡ Some (without_place m.row)
  row_got name side selector m is = sym ((tied.methods name side).each selector) ∙ ap (option_map without_place) (placed_got name side selector m is)

  module _
      (sourced : (name : Name) (class : ClassRow) (side : Side) (selector : Text) (row : MethodRow) → map.get (classes_of changes) name ≡ Some class → map.get ((state_of changes).methods name side) selector ≡ Some row → IsSourced selector row)
    where
      one_source : (name : Name) (class : ClassRow) (side : Side) (selector : Text) (m : CodedRow) → map.get ours.classes name ≡ Some class
          → map.get (ours.methods name side) selector ≡ Some m
          → IsSourceOf ours.classes (imaged name side (selector, m)) m.row.source
      one_source name class side selector m there is =
          let has = sourced name class side selector (without_place m.row) (class_got name class there) (row_got name side selector m is) in
          let code = of.coded.codes name side selector m is in
          record { text = has.text; short = has.short; check = has.check; code = code.0; code_is = code.1; compiled = code.2 }

      on_side : (name : Name) (class : ClassRow) (side : Side) → map.get ours.classes name ≡ Some class
          → AreEachs ours.classes (list_map (in_image name side) (methods_view (ours.methods name side))) (sources_on row_source (ours.methods name side))
      on_side name class side there =
          eachs_on ours.classes name side (map.entries (ours.methods name side))
          (each_holds (λ selector m. IsSourceOf ours.classes (imaged name side (selector, m)) m.row.source) (ours.methods name side) (λ selector m is. one_source name class side selector m there is))

      in_each : AllByRecursion (λ e. AreEachs ours.classes (in_class (class_view ours e)) (class_sources ours e)) (map.entries ours.classes)
      in_each = each_holds (λ name row. AreEachs ours.classes (in_class (class_view ours (name, row))) (class_sources ours (name, row))) ours.classes (λ name row there.
          eachs_both ours.classes (list_map (in_image name Instance) (methods_view (ours.methods name Instance))) (list_map (in_image name Class) (methods_view (ours.methods name Class)))
          (sources_on row_source (ours.methods name Instance)) (sources_on row_source (ours.methods name Class)) (on_side name row Instance there) (on_side name row Class there))

      pub are_sources : AreSourcesOf image.classes (sources_of (λ (m : PlacedRow). m.source) (placed_of changes))
      are_sources =
          subst (λ ss. AreSourcesOf image.classes ss) (sym (sources_coded (placed_of changes) ours of.coded))
          (subst (λ (c : Classes). AreEachs c (imaged_methods image.classes) (sources_of row_source ours)) (sym by_name)
          (subst (λ cs. AreEachs ours.classes (imaged_methods cs) (sources_of row_source ours)) (sym of.classes) (eachs_in ours (map.entries ours.classes) in_each)))
