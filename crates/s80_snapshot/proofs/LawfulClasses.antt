-- The classes of a list are lawful in its image, each by itself, and the codes of their methods are verified.
use Rattle.std.proofs.Common.{◌≡◌, ◌∙◌, ◌≤◌, ◌^◌, ℕ, true, nat_le, refl, sym, ap, subst, List, [], ◌∷◌, length, Option, Some, Ok, map as list_map, arith}
use Rattle.std.specs.List.{All, AllByRecursion}
use Rattle.std.specs.FinMap as map
use Rattle.std.proofs.lemmas.List.{length-map}
use Rattle.s80_base.specs.declared.names.Side.{Side}
use Rattle.s80_base.specs.declared.names.Side.TheVariants.{Instance, Class}
use Rattle.s80_dict.specs.Dict.{Methods}
use Rattle.s80_code.specs.declared.code.Code.{Code}
use Rattle.s80_form.specs.Name.{IsBrief, IsSelectorWord}
use Rattle.s80_change.specs.declared.change.Change.{Change}
use Rattle.s80_change.specs.Block.{IsLawful, blocks}
use Rattle.s80_change.specs.Check.{IsCheckOf}
use Rattle.s80_class.specs.Classes.{Name, ClassRow, Classes, inherited_of}
use Rattle.s80_method.specs.Code.{IsMethodCode}
use Rattle.s80_method.specs.Shape.{shape_of}
use Rattle.s80_apply.specs.List.{classes_of, state_of}
use Rattle.s80_apply.specs.Named.{AreNamed}
use Rattle.s80_apply.specs.Placed.{ArePlacesOf, placed_of, without_place}
use Rattle.s80_apply.specs.Seen.{AreSeen}
use Rattle.s80_apply.specs.Source.{AllStand}
use Rattle.s80_apply.specs.State.{MethodRow}
use Rattle.s80_fileout.specs.Condensed.{filed}
use Rattle.s80_image.specs.Answers.{AreVerified, AreVerifiedMethods, IsVerifiedView}
use Rattle.s80_image.specs.Classes.{ClassView, class, class_behind, classes, heading}
use Rattle.s80_image.specs.Format.{pair}
use Rattle.s80_image.specs.Image.{ImageView}
use Rattle.s80_image.specs.Methods.{code, code_of, methods}
use Rattle.s80_image.specs.Parts.{is_above}
use Rattle.s80_snapshot.specs.OfList.{IsImageOf}
use Rattle.s80_snapshot.specs.Pictured.{CodedRow, CodedState, class_view, classes_view, heading_view, method_view, methods_view}
use Rattle.s80_snapshot.proofs.lemmas.NamedMaps.{Text, each_holds}
use Rattle.s80_snapshot.proofs.BriefTrees.{method_brief}
use Rattle.s80_snapshot.proofs.FiledMethods.{IsSourced}
use Rattle.s80_snapshot.proofs.LawfulCodes.{CodeLaws, code_lawful, code_verified}
use Rattle.s80_snapshot.proofs.LawfulHeadings.{heading_passes}
use Rattle.s80_snapshot.proofs.LawfulMethods.{IsFitMethod, methods_pass}
use Rattle.s80_snapshot.proofs.ListFacts.{KernelLasts, class_good, has_heading, place_small, row_comment, shape_bound}
use Rattle.s80_snapshot.proofs.ListSources.{class_got, classes_list, placed_got, row_got}
use Rattle.s80_snapshot.proofs.PassingFormats.{Passes, list_passes, pair_passes, within}
use Rattle.s80_snapshot.proofs.PassingLists.{sorted_pass}
use Rattle.s80_snapshot.proofs.ListBounds.{bounds_of}

-- ---- how many methods there are

len_seen : {X Y : Type 0} (view : X → Y) (m : Methods X) (n : Methods Y) → AreSeen view m n → map.len m ≡ map.len n
len_seen {X} {Y} view m n seen = map.len-entries m ∙ sym (length-map (map.entries m) (λ (e : Text × X). e.0)) ∙ ap (λ (ks : List Text). length ks) seen.keys ∙ length-map (map.entries n) (λ (e : Text × Y). e.0) ∙ sym (map.len-entries n)

-- laws that hold of every list
pub record ListLaws : Type 0 where
  pub code : CodeLaws
  pub instance : (classes : Classes) (name : Name) → length (shape_of classes name Instance).inst_vars ≡ (inherited_of classes name).inst_vars
  pub class : (classes : Classes) (name : Name) → length (shape_of classes name Class).inst_vars ≡ (inherited_of classes name).class_side_vars
  pub selectors : (source selector : List ℕ) → IsCheckOf source (Ok selector) → IsSelectorWord selector

-- what is known of a lawful list
pub record IsKnownList (changes : List Change) : Type 0 where
  pub named : AreNamed (classes_of changes)
  pub tied : ArePlacesOf (placed_of changes) (state_of changes)
  pub filed : All IsLawful (filed (state_of changes))
  pub lasts : KernelLasts changes
  pub sourced : (name : Name) (class : ClassRow) (side : Side) (selector : Text) (row : MethodRow) → map.get (classes_of changes) name ≡ Some class
      → map.get ((state_of changes).methods name side) selector ≡ Some row → IsSourced selector row

module _ (laws : ListLaws) (changes : List Change) (known : IsKnownList changes) (image : ImageView) (of : IsImageOf changes image) where
  abbrev ours : CodedState
  ours = of.state

  same_classes : ours.classes ≡ classes_of changes
  same_classes = classes_list changes image known.named known.tied of

  got : (name : Name) (row : ClassRow) → map.get ours.classes name ≡ Some row → map.get (classes_of changes) name ≡ Some row
  got = class_got changes image known.named known.tied of

  few_variables : (name : Name) (row : ClassRow) (side : Side) → map.get (classes_of changes) name ≡ Some row
      → length (shape_of (classes_of changes) name side).inst_vars ≤ 64
  few_variables name row Instance there = let bound = (bounds_of changes).inst_vars name row there in omega (arith, bound, laws.instance (classes_of changes) name)
  few_variables name row Class there = let bound = (bounds_of changes).class_side_vars name row there in omega (arith, bound, laws.class (classes_of changes) name)

  module _ (name : Name) (row : ClassRow) (there : map.get ours.classes name ≡ Some row) (side : Side) (selector : Text) (m : CodedRow)
      (is : map.get (ours.methods name side) selector ≡ Some m) where
    source_had : IsSourced selector (without_place m.row)
    source_had = known.sourced name row side selector (without_place m.row) (got name row there) (row_got changes image known.named known.tied of name side selector m is)

    code_had : (c : Code) × (code_of c ≡ m.code) × IsMethodCode (classes_of changes) name side selector m.row.source c
    code_had = let c = of.coded.codes name side selector m is in (c.0, c.1, subst (λ (cs : Classes). IsMethodCode cs name side selector m.row.source c.0) same_classes c.2)

    method_verified : IsVerifiedView m.code
    method_verified =
        (code_had.0, code_had.1, code_verified laws.code (classes_of changes) name side selector m.row.source code_had.0 source_had.check (few_variables name row side (got name row there)) code_had.2)

    selector_brief : IsBrief selector
    selector_brief =
        let tree = source_had.check in
        subst IsBrief (sym tree.3) (method_brief m.row.source tree.0 source_had.short tree.1).selector

    module _ (few : length (blocks changes) ≤ 2 ^ 36) (stand : AllStand (blocks changes) (placed_of changes)) where
      method_fit : IsFitMethod selector m
      method_fit =
          let places = place_small changes m.row few (stand name side selector m.row (placed_got changes image known.named known.tied of name side selector m is)) in
          let good = class_good changes known.filed known.lasts name row (got name row there) in
          record {
            word = laws.selectors m.row.source selector source_had.check;
            brief = selector_brief;
            category = source_had.category;
            position = places.0;
            length = places.1;
            code = subst (λ view. Passes code view) code_had.1
                (code_lawful laws.code (classes_of changes) name side selector m.row.source code_had.0 source_had.check (few_variables name row side (got name row there)) code_had.2
                source_had.short good (shape_bound changes known.filed known.lasts name side));
          }

  -- ---- verified

  verified_on : (name : Name) (row : ClassRow) → map.get ours.classes name ≡ Some row → (side : Side) → AreVerifiedMethods (methods_view (ours.methods name side))
  verified_on name row there side = in_view (map.entries (ours.methods name side)) (each_holds (λ selector m. IsVerifiedView m.code) (ours.methods name side) (λ selector m is. method_verified name row there side selector m is))
    where
      in_view : (es : List (Text × CodedRow)) → AllByRecursion (λ (e : Text × CodedRow). IsVerifiedView e.1.code) es → AreVerifiedMethods (list_map method_view es)
      in_view [] all = tt
      in_view (e ∷ es) all = (all.0, in_view es all.1)

  pub all_verified : AreVerified image
  all_verified =
      subst (AllByRecursion (λ (c : ClassView). AreVerifiedMethods c.instance × AreVerifiedMethods c.class)) (sym of.classes)
      (in_view (map.entries ours.classes)
      (each_holds (λ name row. AreVerifiedMethods (methods_view (ours.methods name Instance)) × AreVerifiedMethods (methods_view (ours.methods name Class))) ours.classes
      (λ name row there. (verified_on name row there Instance, verified_on name row there Class))))
    where
      in_view : (es : List (Name × ClassRow))
          → AllByRecursion (λ (e : Name × ClassRow). AreVerifiedMethods (methods_view (ours.methods e.0 Instance)) × AreVerifiedMethods (methods_view (ours.methods e.0 Class))) es
          → AllByRecursion (λ (c : ClassView). AreVerifiedMethods c.instance × AreVerifiedMethods c.class) (list_map (class_view ours) es)
      in_view [] all = tt
      in_view (e ∷ es) all = (all.0, in_view es all.1)

  -- ---- lawful

  module _ (few : length (blocks changes) ≤ 2 ^ 36) (stand : AllStand (blocks changes) (placed_of changes)) where
    methods_on : (name : Name) (row : ClassRow) → map.get ours.classes name ≡ Some row → (side : Side) → Passes methods (methods_view (ours.methods name side))
    methods_on name row there side =
        let most : map.len (ours.methods name side) ≤ 16384 =
        omega (
          arith,
          len_seen (λ (m : CodedRow). m.row) (ours.methods name side) ((placed_of changes).methods name side) (of.coded.methods name side),
          len_seen without_place ((placed_of changes).methods name side) ((state_of changes).methods name side) (known.tied.methods name side),
          (bounds_of changes).few name side,
        ) in
        methods_pass (ours.methods name side) most (λ selector m is. method_fit name row there side selector m is few stand)

    class_pass : (last : Option Text) (name : Name) (row : ClassRow) → map.get ours.classes name ≡ Some row → is_above last name ≡ true
        → Passes (class last) (class_view ours (name, row))
    unfolding class
    class_pass last name row there above =
        let good = class_good changes known.filed known.lasts name row (got name row there) in
        pair_passes (heading last) (λ _. pair methods (λ _. methods)) (heading_view name row, (methods_view (ours.methods name Instance), methods_view (ours.methods name Class)))
        (heading_passes last name row good (row_comment changes known.filed known.lasts name row (got name row there)) (has_heading changes known.filed known.lasts name row (got name row there)) above)
        (pair_passes methods (λ _. methods) (methods_view (ours.methods name Instance), methods_view (ours.methods name Class)) (methods_on name row there Instance) (methods_on name row there Class))

    view_pass : Passes classes (classes_view ours)
    unfolding classes
    view_pass =
        let size : length (classes_view ours) ≤ 65536 =
        omega (arith, length-map (map.entries ours.classes) (class_view ours), map.len-entries ours.classes, ap (λ (c : Classes). map.len c) same_classes, (bounds_of changes).count) in
        list_passes (λ n. nat_le n 65536) class_behind (classes_view ours) (omega (arith, size)) (within (length (classes_view ours)) 65536 size)
        (sorted_pass (class_view ours) (λ (c : ClassView). c.heading.name) (λ e. refl) class (map.entries ours.classes) (map.entries_sorted ours.classes)
        (each_holds (λ name row. (last : Option Text) → is_above last name ≡ true → Passes (class last) (class_view ours (name, row))) ours.classes (λ name row there last above. class_pass last name row there above)))

    pub classes_pass : Passes classes image.classes
    classes_pass = subst (λ cs. Passes classes cs) (sym of.classes) view_pass
