-- Nothing is wrong with all classes of a list together.
use Rattle.std.proofs.Common.{◌≡◌, ◌∙◌, ◌≤◌, ◌+◌, ◌&&◌, ◌||◌, not, ℕ, zero, suc, Bool, cond, true, false, nat_le, refl, sym, ap, subst, List, [], ◌∷◌, length, Option, Some, None, is_some, codes, map as list_map, unwrap_or, arith}
use Rattle.std.specs.Prelude.{find}
use Rattle.std.specs.List.{All, AllByRecursion, list_all, list_any}
use Rattle.std.specs.Option.{option_map, option_map_or}
use Rattle.std.specs.Str.{bytes_eq}
use Rattle.std.specs.Cmp.Lexicographic.{bytes_decides}
use Rattle.std.specs.FinMap as map
use Rattle.std.proofs.lemmas.Bool.{and_parts}
use Rattle.s80_kernel.specs.Rows.{KernelRow, is_kernel_class, kernel_rows}
use Rattle.s80_change.specs.declared.change.Change.{Change}
use Rattle.s80_form.specs.Definition.{is_empty}
use Rattle.s80_change.specs.Block.{IsLawful}
use Rattle.s80_class.specs.Classes.{Name, ClassRow, Classes, Inherited, IsLine, IsValid, bits_variables_of, inherited_of, lineage}
use Rattle.s80_apply.specs.Kernel.{kernel_classes, superclass_of}
use Rattle.s80_apply.specs.Kernel as kernel
use Rattle.s80_apply.specs.List.{classes_of, state_of}
use Rattle.s80_fileout.specs.Condensed.{filed}
use Rattle.s80_image.specs.Classes.{ClassView, class, kernel_row}
use Rattle.s80_image.specs.Image.{ImageView}
use Rattle.s80_image.specs.Together.{first_class_place, Spot, ends_within, first_wrong, is_endless, lacks_kernel_class, lacks_superclass, missing, or_else, superclass_field, wrong_chain, wrong_in, wrong_superclass, wrong_together, wrong_total, wrong_total_in, instance_field, class_side_field, classes_place}
use Rattle.s80_image.specs.declared.image.ClassHeading.{ClassHeading}
use Rattle.s80_snapshot.specs.OfList.{IsImageOf}
use Rattle.s80_snapshot.specs.Pictured.{CodedState, class_view, classes_view, heading_view}
use Rattle.s80_snapshot.proofs.lemmas.NamedMaps.{each_holds, one_value}
use Rattle.s80_snapshot.proofs.FiledClasses.{upwards_few}
use Rattle.s80_snapshot.proofs.LawfulClasses.{IsKnownList}
use Rattle.s80_snapshot.proofs.LawfulHeadings.{kernel_got}
use Rattle.s80_snapshot.proofs.ListFacts.{KernelLasts, kernel_found, kernel_same}
use Rattle.s80_snapshot.proofs.ListSources.{by_name, class_got, classes_list}
use Rattle.s80_snapshot.proofs.PassingFormats.{within}
use Rattle.s80_snapshot.proofs.ListBounds.{bounds_of}

-- ---- the first that is wrong

nothing_wrong : (wrong : ClassHeading → Option Spot) (at : ℕ) (cs : List ClassView) → AllByRecursion (λ (c : ClassView). wrong c.heading ≡ None) cs
    → first_wrong wrong at cs ≡ None
nothing_wrong wrong at [] all = refl
nothing_wrong wrong at (c ∷ cs) all = ap (λ (o : Option Spot). or_else (option_map (λ (spot : Spot). (at + spot.0, spot.1)) o) (first_wrong wrong (at + length ((class None).spell c)) cs)) all.0
    ∙ nothing_wrong wrong (at + length ((class None).spell c)) cs all.1

or_none : (a b : Option Spot) → a ≡ None → b ≡ None → or_else a b ≡ None
or_none a b first second = ap (λ (o : Option Spot). or_else o b) first ∙ second

spot_none : (b : Bool) (spot : Spot) → b ≡ false → cond b (Some spot) None ≡ None
spot_none b spot is = ap (λ c. cond c (Some spot) None) is

-- ---- lines

ends_line : (steps : ℕ) (classes : Classes) (o : Option Name) (es : List (Name × ClassRow)) → IsLine classes o es → length es ≤ steps
    → ends_within steps classes o ≡ true
ends_line steps classes None es on few = refl
ends_line steps classes (Some name) [] on few = absurd on
ends_line zero classes (Some name) (e ∷ es) on few = absurd (omega arith)
ends_line (suc steps) classes (Some name) (e ∷ es) on few =
    ap (λ (o : Option ClassRow). option_map_or (λ (row : ClassRow). ends_within steps classes row.superclass) o false) on.1 ∙ ends_line steps classes e.1.superclass es on.2 (omega arith)

above_there : (classes : Classes) (name superclass : Name) (row : ClassRow) → map.get classes name ≡ Some row → row.superclass ≡ Some superclass
    → (es : List (Name × ClassRow)) → IsLine classes (Some name) es → map.contains_key classes superclass ≡ true
above_there classes name superclass row there above [] on = absurd on
above_there classes name superclass row there above (e ∷ es) on =
    let same : e.1 ≡ row = one_value (map.get classes name) e.1 row on.1 there in
    next es (subst (λ (o : Option Name). IsLine classes o es) (ap (λ (r : ClassRow). r.superclass) same ∙ above) on.2)
  where
    next : (es : List (Name × ClassRow)) → IsLine classes (Some superclass) es → map.contains_key classes superclass ≡ true
    next [] on = absurd on
    next (f ∷ es) on = ap (λ (o : Option ClassRow). is_some o) on.1

-- ---- rows of the kernel

object_alone : list_all (λ (k : KernelRow). not (is_empty k.superclass) || bytes_eq k.name (codes "Object")) kernel_rows ≡ true
object_alone = refl

found_all : {X : Type 0} (test p : X → Bool) (xs : List X) (x : X) → list_all test xs ≡ true → find p xs ≡ Some x → (test x ≡ true) × (p x ≡ true)
found_all test p [] x all is = absurd (let bad : None ≡ Some x = is in cc)
found_all {X} test p (y ∷ xs) x all is =
    let parts = and_parts (test y) (list_all test xs) all in
    go (p y) refl is parts.0 (found_all test p xs x parts.1)
  where
    go : (b : Bool) → p y ≡ b → cond b (Some y) (find p xs) ≡ Some x → test y ≡ true → (find p xs ≡ Some x → (test x ≡ true) × (p x ≡ true))
        → (test x ≡ true) × (p x ≡ true)
    go true at here passes more = let same : y ≡ x = (let both : Some y ≡ Some x = here in cc) in (subst (λ (z : X). test z ≡ true) same passes, subst (λ (z : X). p z ≡ true) same at)
    go false at rest passes more = more rest

root_is : (name : Name) (k : KernelRow) → kernel_row name ≡ Some k → superclass_of k.superclass ≡ None → bytes_eq name (codes "Object") ≡ true
unfolding kernel_row
root_is name k is none =
    let found = found_all (λ (r : KernelRow). not (is_empty r.superclass) || bytes_eq r.name (codes "Object")) (λ (r : KernelRow). bytes_eq r.name name) kernel_rows k object_alone is in
    subst (λ (n : Name). bytes_eq n (codes "Object") ≡ true) ((bytes_decides k.name name).0 found.1) (root k.superclass none (bytes_eq k.name (codes "Object")) found.0)
  where
    root : (s : Name) → superclass_of s ≡ None → (b : Bool) → (not (is_empty s) || b) ≡ true → b ≡ true
    root [] none b is = is
    root (c ∷ s) none b is = absurd (let bad : Some (c ∷ s) ≡ None = none in cc)

kernel_named_so : list_all (λ (k : KernelRow). is_kernel_class k.name) kernel_rows ≡ true
unfolding is_kernel_class
kernel_named_so = refl

any_false : (test : KernelRow → Bool) (rows : List KernelRow) → AllByRecursion (λ (k : KernelRow). test k ≡ false) rows → list_any test rows ≡ false
any_false test [] all = refl
any_false test (k ∷ rows) all = ap (λ b. b || list_any test rows) all.0 ∙ any_false test rows all.1

-- ---- the classes of a list

module _ (changes : List Change) (lawful : All IsLawful (filed (state_of changes))) (lasts : KernelLasts changes)
    (line_is : (classes : Classes) (name : Name) (es : List (Name × ClassRow)) → IsLine classes (Some name) es → lineage classes name ≡ es) where
  abbrev all_classes : Classes
  all_classes = classes_of changes

  valid : IsValid all_classes
  valid = (bounds_of changes).valid

  module _ (name : Name) (row : ClassRow) (there : map.get all_classes name ≡ Some row) where
    superclass_there : lacks_superclass all_classes (heading_view name row) ≡ false
    superclass_there = go row.superclass refl
      where
        has : (b : Bool) → b ≡ true → (a : Bool) → (not a && not b) ≡ false
        has true is true = refl
        has true is false = refl
        has false is a = absurd (cc)

        root : (a b : Bool) → a ≡ true → (not a && not b) ≡ false
        root true b is = refl
        root false b is = absurd (cc)

        own : is_kernel_class name ≡ false → row.superclass ≡ None → ⊥
        own is none = let o = (bounds_of changes).own name row there is in let bad : None ≡ Some o.superclass = sym none ∙ o.above in cc

        kernel_root : is_kernel_class name ≡ true → row.superclass ≡ None → bytes_eq name (codes "Object") ≡ true
        kernel_root is none =
            let k = kernel_same changes lawful lasts name row there is in
            root_is name k.0 k.1 (sym (ap (λ (r : ClassRow). r.superclass) k.2) ∙ none)

        by_kernel : (b : Bool) → is_kernel_class name ≡ b → row.superclass ≡ None → bytes_eq name (codes "Object") ≡ true
        by_kernel true is none = kernel_root is none
        by_kernel false is none = absurd (own is none)

        go : (o : Option Name) → row.superclass ≡ o
            → (not (bytes_eq name (codes "Object")) && not (map.contains_key all_classes (unwrap_or row.superclass []))) ≡ false
        go None none = root (bytes_eq name (codes "Object")) (map.contains_key all_classes (unwrap_or row.superclass [])) (by_kernel (is_kernel_class name) refl none)
        go (Some superclass) above =
            let line = valid name row there in
            has (map.contains_key all_classes (unwrap_or row.superclass []))
            (ap (λ (o : Option Name). map.contains_key all_classes (unwrap_or o [])) above ∙ above_there all_classes name superclass row there above line.0 line.1) (bytes_eq name (codes "Object"))

    chain_ends : is_endless all_classes (heading_view name row) ≡ false
    chain_ends =
        let line = valid name row there in
        let few : length line.0 ≤ map.len all_classes = omega (arith, ap (λ (es : List (Name × ClassRow)). length es) (line_is all_classes name line.0 line.1), upwards_few (map.len all_classes) all_classes (Some name)) in
        ap not (ends_line (map.len all_classes) all_classes (Some name) line.0 line.1 few)

    few_total : wrong_total all_classes (heading_view name row) ≡ None
    few_total =
        let bounds = bounds_of changes in
        total (inherited_of all_classes name) (within (inherited_of all_classes name).inst_vars 64 (bounds.inst_vars name row there)) (within (bits_variables_of (inherited_of all_classes name)) 0 (bounds.bits_variables name row there))
        (within (inherited_of all_classes name).class_side_vars 64 (bounds.class_side_vars name row there))
      where
        total : (t : Inherited) → nat_le t.inst_vars 64 ≡ true → nat_le (bits_variables_of t) 0 ≡ true → nat_le t.class_side_vars 64 ≡ true
            → wrong_total_in t (heading_view name row) ≡ None
        total t first second third = λ i.
            cond (not (first i) || not (second i)) (Some (instance_field (heading_view name row))) (cond (not (third i)) (Some (class_side_field (heading_view name row))) None)

  kernel_there : lacks_kernel_class all_classes ≡ false
  kernel_there = any_false (λ (k : KernelRow). not (map.contains_key all_classes k.name)) kernel_rows (each kernel_rows kernel_named_so)
    where
      one : (name : Name) → is_kernel_class name ≡ true → not (map.contains_key all_classes name) ≡ false
      one name is =
          let k = kernel_found name is in
          let last = lasts name (kernel.kernel_row k.0) (kernel_got name k.0 k.1) in
          ap (λ (o : Option ClassRow). not (is_some o)) last.1

      each : (rows : List KernelRow) → list_all (λ (k : KernelRow). is_kernel_class k.name) rows ≡ true
          → AllByRecursion (λ (k : KernelRow). not (map.contains_key all_classes k.name) ≡ false) rows
      each [] all = tt
      each (k ∷ rows) all = (one k.name (and_parts (is_kernel_class k.name) (list_all (λ (r : KernelRow). is_kernel_class r.name) rows) all).0, each rows (and_parts (is_kernel_class k.name) (list_all (λ (r : KernelRow). is_kernel_class r.name) rows) all).1)

-- ---- an image of the list

module _ (changes : List Change) (known : IsKnownList changes)
    (line_is : (classes : Classes) (name : Name) (es : List (Name × ClassRow)) → IsLine classes (Some name) es → lineage classes name ≡ es) (image : ImageView)
    (of : IsImageOf changes image) where
  abbrev ours : CodedState
  ours = of.state

  same : ours.classes ≡ classes_of changes
  same = classes_list changes image known.named known.tied of

  each_view : (wrong : ClassHeading → Option Spot)
      → ((name : Name) (row : ClassRow) → map.get (classes_of changes) name ≡ Some row → wrong (heading_view name row) ≡ None)
      → AllByRecursion (λ (c : ClassView). wrong c.heading ≡ None) (classes_view ours)
  each_view wrong none =
      in_view (map.entries ours.classes) (each_holds (λ name row. wrong (heading_view name row) ≡ None) ours.classes (λ name row there. none name row (class_got changes image known.named known.tied of name row there)))
    where
      in_view : (es : List (Name × ClassRow)) → AllByRecursion (λ (e : Name × ClassRow). wrong (heading_view e.0 e.1) ≡ None) es
          → AllByRecursion (λ (c : ClassView). wrong c.heading ≡ None) (list_map (class_view ours) es)
      in_view [] all = tt
      in_view (e ∷ es) all = (all.0, in_view es all.1)

  abbrev cs : List ClassView
  cs = classes_view ours

  abbrev classes : Classes
  classes = classes_of changes

  no_superclass_wrong : first_wrong (wrong_superclass classes) first_class_place cs ≡ None
  no_superclass_wrong =
      nothing_wrong (wrong_superclass classes) first_class_place cs (each_view (wrong_superclass classes) (λ name row there.
      spot_none (lacks_superclass classes (heading_view name row)) (superclass_field (heading_view name row)) (superclass_there changes known.filed known.lasts line_is name row there)))

  no_chain_wrong : first_wrong (wrong_chain classes) first_class_place cs ≡ None
  no_chain_wrong =
      nothing_wrong (wrong_chain classes) first_class_place cs (each_view (wrong_chain classes) (λ name row there.
      spot_none (is_endless classes (heading_view name row)) (superclass_field (heading_view name row)) (chain_ends changes known.filed known.lasts line_is name row there)))

  no_total_wrong : first_wrong (wrong_total classes) first_class_place cs ≡ None
  no_total_wrong = nothing_wrong (wrong_total classes) first_class_place cs (each_view (wrong_total classes) (few_total changes known.filed known.lasts line_is))

  none_in : wrong_in classes cs ≡ None
  none_in =
      let none_missing = spot_none (lacks_kernel_class classes) (classes_place, length cs) (kernel_there changes known.filed known.lasts line_is) in
      let chains = first_wrong (wrong_chain classes) first_class_place cs in
      let totals = first_wrong (wrong_total classes) first_class_place cs in
      or_none (first_wrong (wrong_superclass classes) first_class_place cs) (or_else chains (or_else totals (missing classes cs))) no_superclass_wrong
      (or_none chains (or_else totals (missing classes cs)) no_chain_wrong (or_none totals (missing classes cs) no_total_wrong none_missing))

  pub together_right : wrong_together image.classes ≡ None
  unfolding wrong_together
  together_right =
      ap (λ (c : Classes). wrong_in c image.classes) (by_name changes image known.named known.tied of ∙ same) ∙ ap (wrong_in classes) of.classes ∙ none_in
