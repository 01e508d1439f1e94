-- Class-side variables given to a class: how many there are, and the entry that has them.
use Rattle.std.proofs.Common.{◌≡◌, ◌≤◌, ◌<◌, ◌+◌, ◌-◌, ◌^◌, ◌∙◌, ℕ, not, find, refl, sym, ap, subst, List, [], ◌∷◌, length, Option, Some, None, option_map, arith}
use Rattle.std.specs.List.{sum_by}
use Rattle.std.specs.FinMap as map
use Rattle.std.proofs.lemmas.List.Sums.{sum_by-cons}
use Rattle.s80_form.specs.Name.{is_name}
use Rattle.s80_form.specs.declared.refusal.Refusal.TheVariants.{BadName, Duplicate}
use Rattle.s80_form.specs.declared.refusal.ManyKind.TheVariants.{ClassSideVariables}
use Rattle.s80_class.specs.declared.entry.ClassEntry.{ClassEntry}
use Rattle.s80_class.specs.declared.inherited.Totals.{Totals}
use Rattle.s80_class.specs.declared.inherited.Greatest.{Greatest}
use Rattle.s80_class.specs.Classes.{Name, ClassRow, Classes, IsValid, change_row, extent_of, inherited_in, inherited_of, with_class_side_vars}
use Rattle.s80_class.specs.Counted.{counted, greatest_of, totals}
use Rattle.s80_class.specs.Table.{Table, IsAbove, IsEntryOf, IsNumberOf, row_of}
use Rattle.s80_class.proofs.lemmas.Above.{superclass_above}
use Rattle.s80_class.proofs.lemmas.Alike.{alike_len}
use Rattle.s80_class.proofs.lemmas.Changed.{changed_alike, changed_there}
use Rattle.s80_class.proofs.lemmas.Lines.{Entry, IsOver, lineage_line}
use Rattle.s80_class.proofs.lemmas.Most.{some_row}
use Rattle.s80_class.proofs.lemmas.Walks.{same_name}
use Rattle.s80_apply.specs.Accept.{above, first_again, first_some, kernel_name, refusal_of_class_vars}
use Rattle.s80_apply.specs.Limits.{IsWithin}
use Rattle.s80_apply.specs.System.{with_entry}
use Rattle.s80_apply.proofs.Defined.{inherited_defined, valid_defined}
use Rattle.s80_apply.proofs.Extents.{grown_extent}
use Rattle.s80_apply.proofs.GivenVars.{given_before, given_inst_vars, over_own}
use Rattle.s80_apply.proofs.LastingDefined.{each_bounded}
use Rattle.s80_apply.proofs.Passing.{vars_accepted}
use Rattle.s80_apply.proofs.Sound.{not_unknown}

-- ---- what is counted

abbrev side_sum : List Entry → ℕ
side_sum es = sum_by (λ e. length e.1.class_side_vars) es

module _ (classes : Classes) (name : Name) (row : ClassRow) (valid : IsValid classes) (there : map.get classes name ≡ Some row) where
  over : IsOver classes name row.superclass
  over = over_own classes name row valid there

  had : inherited_of classes name ≡ inherited_in ((name, row) ∷ over.0)
  had = ap inherited_in (lineage_line classes name ((name, row) ∷ over.0) (refl, there, over.1))

  had_side : (inherited_of classes name).class_side_vars ≡ length row.class_side_vars + side_sum over.0
  had_side = ap (λ t. t.class_side_vars) had ∙ sum_by-cons (λ (e : Entry). length e.1.class_side_vars) (name, row) over.0

  -- its own are among those that it has
  pub own_counted : IsWithin classes → (t : Totals) → t ≡ totals (inherited_of classes name) → length row.class_side_vars ≤ t.class_side_vars
  own_counted within t same =
      let few : (inherited_of classes name).class_side_vars ≤ 64 = within.class_side_vars name row there in
      let side : t.class_side_vars ≡ counted (inherited_of classes name).class_side_vars = ap (λ t. t.class_side_vars) same in
      omega (arith, had_side, few, side)

  module _ (names : List Name) where
    abbrev given : ClassRow
    given = with_class_side_vars names row

    abbrev new : Classes
    new = map.insert classes name given

    pub valid_given : IsValid new
    valid_given = valid_defined classes name given valid over

    has : inherited_of new name ≡ inherited_in ((name, given) ∷ over.0)
    has = inherited_defined classes name given valid over

    has_side : (inherited_of new name).class_side_vars ≡ length names + side_sum over.0
    has_side = ap (λ t. t.class_side_vars) has ∙ sum_by-cons (λ (e : Entry). length e.1.class_side_vars) (name, given) over.0

    same_inst : (inherited_of classes name).inst_vars ≡ (inherited_of new name).inst_vars
    same_inst =
        ap (λ t. t.inst_vars) had ∙ sum_by-cons (λ (e : Entry). length e.1.inst_vars) (name, row) over.0
        ∙ sym (ap (λ t. t.inst_vars) has ∙ sum_by-cons (λ (e : Entry). length e.1.inst_vars) (name, given) over.0)

    same_kind : (inherited_of classes name).kind ≡ (inherited_of new name).kind
    same_kind = ap (λ t. t.kind) had ∙ sym (ap (λ t. t.kind) has)

    -- those of the others stay, and its own are these
    pub given_totals : IsWithin classes → (t : Totals) (own count side : ℕ) → t ≡ totals (inherited_of classes name) → own ≡ length row.class_side_vars → length names ≡ count → side ≡ counted ((t.class_side_vars - own) + count)
        → ◌≡◌ {A = Totals} (record { inst_vars = t.inst_vars; class_side_vars = side; kind = t.kind }) (totals (inherited_of new name))
    given_totals within t own count side same owns counts is =
        let few : (inherited_of classes name).class_side_vars ≤ 64 = within.class_side_vars name row there in
        let was : t.class_side_vars ≡ counted (inherited_of classes name).class_side_vars = ap (λ t. t.class_side_vars) same in
        let sum : (t.class_side_vars - own) + count ≡ (inherited_of new name).class_side_vars = omega (arith, had_side, has_side, few, was, owns, counts) in
        let sides : side ≡ counted (inherited_of new name).class_side_vars = is ∙ ap counted sum in
        let insts : t.inst_vars ≡ counted (inherited_of new name).inst_vars = ap (λ t. t.inst_vars) same ∙ ap counted same_inst in
        let kinds : t.kind ≡ (inherited_of new name).kind = ap (λ t. t.kind) same ∙ same_kind in
        λ i. record { inst_vars = insts i; class_side_vars = sides i; kind = kinds i }

    -- the greatest number is no greater than can be counted
    pub given_extent : IsWithin classes → length names < 2 ^ 63 → (most : Greatest) → most ≡ greatest_of (extent_of new name)
        → most.class_side_vars ≡ (extent_of (change_row (with_class_side_vars names) name classes) name).class_side_vars
    given_extent within short most is =
        let few : (inherited_of classes name).class_side_vars ≤ 64 = within.class_side_vars name row there in
        let bound : (extent_of new name).class_side_vars ≤ 64 + (inherited_of new name).class_side_vars =
        grown_extent classes name given valid over row there (λ e. length e.1.class_side_vars) (λ t. t.class_side_vars) (λ es. refl) 64 within.class_side_vars in
        let small : counted (extent_of new name).class_side_vars ≡ (extent_of new name).class_side_vars = omega (arith, bound, had_side, has_side, few, short) in
        ap (λ (g : Greatest). g.class_side_vars) is ∙ small ∙ ap (λ (c : Classes). (extent_of c name).class_side_vars) (sym (changed_there (with_class_side_vars names) name classes row there))

-- ---- the checks

-- where the names are names and the class is there
pub vars_refusal : (name : Name) (names : List Name) (classes : Classes) (row : ClassRow) → find (λ name. not (is_name name)) names ≡ None → map.get classes name ≡ Some row
    → refusal_of_class_vars name names classes
    ≡ first_some (kernel_name name ∷ option_map Duplicate (first_again [] names) ∷ above 64 ClassSideVariables (extent_of (change_row (with_class_side_vars names) name classes) name).class_side_vars ∷ [])
vars_refusal name names classes row none there =
    λ i. first_some (option_map BadName (none i) ∷ not_unknown classes name row there i ∷ kernel_name name ∷ option_map Duplicate (first_again [] names)
    ∷ above 64 ClassSideVariables (extent_of (change_row (with_class_side_vars names) name classes) name).class_side_vars ∷ [])

within_given : (name : Name) (names : List Name) (classes : Classes) → refusal_of_class_vars name names classes ≡ None → IsValid classes → IsWithin classes → IsWithin (change_row (with_class_side_vars names) name classes)
within_given name names classes none valid within =
    let ok = vars_accepted name names classes none in
    let old = some_row classes name ok.known in
    let row : ClassRow = with_class_side_vars names old.0 in
    let made : change_row (with_class_side_vars names) name classes ≡ map.insert classes name row = changed_there (with_class_side_vars names) name classes old.0 old.1 in
    let few : (extent_of (map.insert classes name row) name).class_side_vars ≤ 64 = subst (λ (c : Classes). (extent_of c name).class_side_vars ≤ 64) made ok.few in
    let size : map.len (change_row (with_class_side_vars names) name classes) ≡ map.len classes =
    alike_len (λ row. row.superclass) classes (change_row (with_class_side_vars names) name classes) (changed_alike (with_class_side_vars names) name classes (λ row. row.superclass) (λ row. refl)) in
    record {
      count = omega (arith, size, within.count);
      inst_vars = λ q now is.
          let was = given_before name names classes q now is in
          subst (λ n. n ≤ 64) (sym (given_inst_vars name names classes q)) (within.inst_vars q was.0 was.1);
      class_side_vars =
          subst (λ (c : Classes). (q : Name) (r : ClassRow) → map.get c q ≡ Some r → (inherited_of c q).class_side_vars ≤ 64) (sym made)
          (each_bounded classes name row valid (over_own classes name old.0 valid old.1) (λ t. t.class_side_vars) 64 within.class_side_vars few);
    }

-- ---- the entry

module _ (table : Table) (number : ℕ) (name : Name) (names : List Name) (old entry : ClassEntry) (named : IsNumberOf table.names number name) (is : IsEntryOf table number old)
    (row : (numbers : List (Option Name)) → row_of numbers entry ≡ with_class_side_vars names (row_of numbers old)) (class_name : entry.class_name ≡ old.class_name) (superclass : entry.superclass ≡ old.superclass) where
  same : old.class_name ≡ name
  same = same_name table number old.class_name name is.named named

  -- it may take the place of the old one
  pub vars_class : IsNumberOf table.names number entry.class_name
  vars_class = subst (λ (n : Name). IsNumberOf table.names number n) (sym class_name) is.named

  pub vars_above : IsValid table.classes → IsAbove table entry.superclass entry.class_name
  vars_above valid = subst (IsAbove table entry.superclass) (sym class_name) (subst (λ s. IsAbove table s old.class_name) (sym superclass) (superclass_above table valid number old is))

  -- and makes the classes
  pub vars_make : with_entry table entry ≡ change_row (with_class_side_vars names) name table.classes
  vars_make =
      (λ i. map.insert table.classes ((class_name ∙ same) i) (row table.names i))
      ∙ sym (changed_there (with_class_side_vars names) name table.classes (row_of table.names old) (ap (map.get table.classes) (sym same) ∙ is.row))

  pub vars_within : refusal_of_class_vars name names table.classes ≡ None → IsValid table.classes → IsWithin table.classes → IsWithin (with_entry table entry)
  vars_within none valid within = subst IsWithin (sym vars_make) (within_given name names table.classes none valid within)
