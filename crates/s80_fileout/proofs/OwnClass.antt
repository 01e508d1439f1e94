-- One class that isn't the kernel's: where its superclass is there, its definition, comment and class-side variables are accepted, and make it.
use Rattle.std.proofs.Common.{◌≡◌, ◌∙◌, ◌≤◌, ◌+◌, ℕ, cond, true, false, not, find, refl, sym, ap, subst, List, [], ◌∷◌, ◌++◌, length, Option, Some, None, Ok, option_map, is_some, arith}
use Rattle.std.specs.List.{sum_by}
use Rattle.std.specs.FinMap as map
use Rattle.std.proofs.lemmas.List.Sums.{sum_by-cons}
use Rattle.s80_kernel.specs.Rows.{is_kernel_class}
use Rattle.s80_change.specs.declared.change.Change.TheVariants.{Form}
use Rattle.s80_form.specs.declared.definition.Definition.{Definition}
use Rattle.s80_form.specs.declared.form.Form.TheVariants.{Define, ClassVars, Comment}
use Rattle.s80_form.specs.declared.refusal.Refusal.TheVariants.{UnknownClass, KernelClass, Cycle, BadName, Duplicate}
use Rattle.s80_form.specs.declared.refusal.ManyKind.TheVariants.{Classes as ManyClasses, InstanceVariables, ClassVariables, ClassSideVariables, Pools, BitsVariables}
use Rattle.s80_form.specs.Name.{is_name}
use Rattle.s80_class.specs.Classes.{Name, ClassRow, Classes, IsLine, IsValid, bits_variables_of, change_row, effective_kind, extent_of, inherited_in, inherited_of, is_bits, is_under, lineage, own_or, with_class_side_vars, with_comment}
use Rattle.s80_class.proofs.lemmas.Changed.{changed_there}
use Rattle.s80_class.proofs.lemmas.Lines.{Entry, IsOver, lineage_line}
use Rattle.s80_apply.specs.Accept.{accept, accepted, bad_name, define, duplicate, first_again, first_some, refusal_of, row_of, too_many}
use Rattle.s80_apply.specs.State.{State}
use Rattle.s80_apply.proofs.Defined.{inherited_defined, line_of}
use Rattle.s80_apply.proofs.Extents.{alone_extent}
use Rattle.s80_apply.proofs.LastingWithin.{AreWithin}
use Rattle.s80_apply.proofs.Looked.{under_absent}
use Rattle.s80_fileout.specs.Condensed.{class_vars_of, comment_of, definition_of, of_own_class}
use Rattle.s80_fileout.specs.Lawful.{IsOwnRow}
use Rattle.s80_fileout.proofs.Keyed.{by_bytes, get_put_here, get_put_other, no_longer, put_twice}
use Rattle.s80_fileout.proofs.Leading.{Leads, leads_first, leads_one, leads_then}
use Rattle.s80_fileout.proofs.Cells.{few_above}

-- each class of these is one of those
abbrev pub AreAmong : Classes → Classes → Type 0
AreAmong these those = (q : Name) (row : ClassRow) → map.get these q ≡ Some row → map.get those q ≡ Some row

pub line_among : (these those : Classes) → AreAmong these those → (p : Option Name) (es : List Entry) → IsLine these p es → IsLine those p es
line_among these those among None [] line = tt
line_among these those among None (e ∷ es) line = absurd line
line_among these those among (Some q) [] line = absurd line
line_among these those among (Some q) (e ∷ es) line = (line.0, among q e.1 line.1, line_among these those among e.1.superclass es line.2)

module _ (final : Classes) (within : AreWithin final) (few : map.len final ≤ 65536) (name : Name) (bare superclass_row : ClassRow) (superclass : Name) (before : State) where
  abbrev pub row : ClassRow
  row = record bare { superclass = Some superclass }

  abbrev d : Definition
  d = definition_of name row superclass

  abbrev s : Classes
  s = before.classes

  abbrev with_row : ClassRow → State
  with_row r = record before { classes = map.insert s name r }

  -- the class as it is defined, and with its comment
  abbrev first_row : ClassRow
  first_row = row_of d None

  abbrev second_row : ClassRow
  second_row = with_comment row.comment first_row

  module _ (own : IsOwnRow name row) (other : is_kernel_class name ≡ false) (here : map.get final name ≡ Some row) (absent : map.get s name ≡ None)
      (among : AreAmong s final) (valid : IsValid s) (above : map.get s superclass ≡ Some superclass_row) where
    pub acyclic : is_under s superclass name ≡ false
    acyclic = sym (under_absent s superclass name superclass_row valid above absent)

    pub line : IsLine s (Some superclass) (lineage s superclass)
    line = line_of s superclass superclass_row valid above

    abbrev pub over : IsOver s name (Some superclass)
    over = (lineage s superclass, line, acyclic)

    abbrev ups : List Entry
    ups = lineage s superclass

    -- ---- what it inherits

    inherits_final : inherited_of final name ≡ inherited_in ((name, row) ∷ ups)
    inherits_final = ap inherited_in (lineage_line final name ((name, row) ∷ ups) (refl, here, line_among s final among (Some superclass) ups line))

    inst_sum : (r : ClassRow) → (inherited_in ((name, r) ∷ ups)).inst_vars ≡ length r.inst_vars + sum_by (λ (e : Entry). length e.1.inst_vars) ups
    inst_sum r = sum_by-cons (λ (e : Entry). length e.1.inst_vars) (name, r) ups

    side_sum : (r : ClassRow) → (inherited_in ((name, r) ∷ ups)).class_side_vars ≡ length r.class_side_vars + sum_by (λ (e : Entry). length e.1.class_side_vars) ups
    side_sum r = sum_by-cons (λ (e : Entry). length e.1.class_side_vars) (name, r) ups

    few_inst : (inherited_in ((name, row) ∷ ups)).inst_vars ≤ 64
    few_inst = subst (λ t. t.inst_vars ≤ 64) inherits_final (within.inst_vars name row here)

    few_side : (inherited_in ((name, row) ∷ ups)).class_side_vars ≤ 64
    few_side = subst (λ t. t.class_side_vars ≤ 64) inherits_final (within.class_side_vars name row here)

    few_bits : bits_variables_of (inherited_in ((name, row) ∷ ups)) ≤ 0
    few_bits = subst (λ t. bits_variables_of t ≤ 0) inherits_final (within.bits_variables name row here)

    same_inst : (inherited_in ((name, row) ∷ ups)).inst_vars ≡ (inherited_in ((name, first_row) ∷ ups)).inst_vars
    same_inst = inst_sum row ∙ sym (inst_sum first_row)

    same_bits : bits_variables_of (inherited_in ((name, row) ∷ ups)) ≡ bits_variables_of (inherited_in ((name, first_row) ∷ ups))
    same_bits = λ i. cond (is_bits (own_or row.kind (effective_kind ups))) (same_inst i) 0

    -- ---- its definition

    is_first : define d s ≡ map.insert s name first_row
    is_first = ap (λ o. map.insert s name (row_of d o)) absent

    count : map.len (define d s) ≤ 65536
    count =
        let most : map.len (map.insert s name first_row) ≤ map.len final =
        no_longer (map.insert s name first_row) final (λ q v is. by_bytes q name (λ same. (row, ap (map.get final) same ∙ here)) (λ ne. (v, among q v (sym (get_put_other s name first_row q ne) ∙ is)))) in
        omega (arith, most, few, ap (λ (c : Classes). map.len c) is_first)

    inherits_first : inherited_of (map.insert s name first_row) name ≡ inherited_in ((name, first_row) ∷ ups)
    inherits_first = inherited_defined s name first_row valid over

    extent_inst : (extent_of (define d s) name).inst_vars ≤ 64
    extent_inst =
        let alone : (extent_of (map.insert s name first_row) name).inst_vars ≡ (inherited_of (map.insert s name first_row) name).inst_vars = alone_extent s name first_row valid over absent (λ t. t.inst_vars) in
        let mine : (inherited_of (map.insert s name first_row) name).inst_vars ≡ (inherited_in ((name, first_row) ∷ ups)).inst_vars = ap (λ t. t.inst_vars) inherits_first in
        omega (arith, alone, mine, same_inst, few_inst, ap (λ (c : Classes). (extent_of c name).inst_vars) is_first)

    extent_side : (extent_of (define d s) name).class_side_vars ≤ 64
    extent_side =
        let alone : (extent_of (map.insert s name first_row) name).class_side_vars ≡ (inherited_of (map.insert s name first_row) name).class_side_vars = alone_extent s name first_row valid over absent (λ t. t.class_side_vars) in
        let mine : (inherited_of (map.insert s name first_row) name).class_side_vars ≡ (inherited_in ((name, first_row) ∷ ups)).class_side_vars = ap (λ t. t.class_side_vars) inherits_first in
        let none : length first_row.class_side_vars ≡ 0 = refl in
        omega (arith, alone, mine, side_sum row, side_sum first_row, none, few_side, ap (λ (c : Classes). (extent_of c name).class_side_vars) is_first)

    extent_bits : (extent_of (define d s) name).bits_variables ≤ 0
    extent_bits =
        let alone : (extent_of (map.insert s name first_row) name).bits_variables ≡ bits_variables_of (inherited_of (map.insert s name first_row) name) = alone_extent s name first_row valid over absent bits_variables_of in
        let mine : bits_variables_of (inherited_of (map.insert s name first_row) name) ≡ bits_variables_of (inherited_in ((name, first_row) ∷ ups)) = ap bits_variables_of inherits_first in
        omega (arith, alone, mine, same_bits, few_bits, ap (λ (c : Classes). (extent_of c name).bits_variables) is_first)

    few_enough : too_many d s ≡ None
    few_enough = λ i. first_some (
        few_above 65536 ManyClasses (map.len (define d s)) count i
        ∷ few_above 64 InstanceVariables (extent_of (define d s) name).inst_vars extent_inst i
        ∷ few_above 256 ClassVariables (length row.class_vars) own.class_vars i
        ∷ few_above 64 ClassSideVariables (extent_of (define d s) name).class_side_vars extent_side i
        ∷ few_above 256 Pools (length row.pools) own.pools i
        ∷ few_above 0 BitsVariables (extent_of (define d s) name).bits_variables extent_bits i
        ∷ [])

    named : bad_name d ≡ None
    named = own.named

    single : duplicate d ≡ None
    single = own.single

    accepted_definition : refusal_of d s ≡ None
    accepted_definition = λ i. first_some (
        named i
        ∷ cond (is_some (above i)) None (Some (UnknownClass superclass))
        ∷ cond (other i) (Some (KernelClass name)) None
        ∷ cond (acyclic i) (Some (Cycle name)) None
        ∷ single i
        ∷ few_enough i
        ∷ [])

    defines : accept (Form (Define d)) before ≡ Ok (with_row first_row)
    defines = ap (λ o. accepted o (record before { classes = define d s })) accepted_definition ∙ ap (λ (c : Classes). Ok (record before { classes = c })) is_first

    -- ---- its comment, and its class-side variables

    changed : (change : ClassRow → ClassRow) (r : ClassRow) → change_row change name (map.insert s name r) ≡ map.insert s name (change r)
    changed change r = changed_there change name (map.insert s name r) r (get_put_here s name r) ∙ put_twice s name r (change r)

    known : (r : ClassRow) → map.contains_key (map.insert s name r) name ≡ true
    known r = ap is_some (get_put_here s name r)

    commented : (text : List ℕ) → Leads (with_row first_row) (comment_of name text) (λ t. t ≡ with_row (with_comment text first_row))
    commented [] = (tt, refl)
    commented (b ∷ bs) =
        leads_one (Form (Comment name (b ∷ bs))) (with_row first_row) (with_row (with_comment (b ∷ bs) first_row)) (λ t. t ≡ with_row (with_comment (b ∷ bs) first_row))
        ((λ i. accepted (cond (known first_row i) None (Some (UnknownClass name))) (record before { classes = change_row (with_comment (b ∷ bs)) name (map.insert s name first_row) }))
        ∙ ap (λ (c : Classes). Ok (record before { classes = c })) (changed (with_comment (b ∷ bs)) first_row))
        refl

    extent_given : (extent_of (change_row (with_class_side_vars row.class_side_vars) name (map.insert s name second_row)) name).class_side_vars ≤ 64
    extent_given =
        let alone : (extent_of (map.insert s name row) name).class_side_vars ≡ (inherited_of (map.insert s name row) name).class_side_vars = alone_extent s name row valid over absent (λ t. t.class_side_vars) in
        let mine : (inherited_of (map.insert s name row) name).class_side_vars ≡ (inherited_in ((name, row) ∷ ups)).class_side_vars = ap (λ t. t.class_side_vars) (inherited_defined s name row valid over) in
        omega (arith, alone, mine, few_side, ap (λ (c : Classes). (extent_of c name).class_side_vars) (changed (with_class_side_vars row.class_side_vars) second_row))

    given : (names : List Name) → option_map BadName (find (λ word. not (is_name word)) names) ≡ None → option_map Duplicate (first_again [] names) ≡ None
        → (extent_of (change_row (with_class_side_vars names) name (map.insert s name second_row)) name).class_side_vars ≤ 64
        → Leads (with_row second_row) (class_vars_of name names) (λ t. t ≡ with_row (with_class_side_vars names second_row))
    given [] side_named side_single extent = (tt, refl)
    given (v ∷ vs) side_named side_single extent =
        leads_one (Form (ClassVars name (v ∷ vs))) (with_row second_row) (with_row (with_class_side_vars (v ∷ vs) second_row)) (λ t. t ≡ with_row (with_class_side_vars (v ∷ vs) second_row))
        ((λ i. accepted (first_some (
        side_named i
        ∷ cond (known second_row i) None (Some (UnknownClass name))
        ∷ cond (other i) (Some (KernelClass name)) None
        ∷ side_single i
        ∷ few_above 64 ClassSideVariables (extent_of (change_row (with_class_side_vars (v ∷ vs)) name (map.insert s name second_row)) name).class_side_vars extent i
        ∷ [])) (record before { classes = change_row (with_class_side_vars (v ∷ vs)) name (map.insert s name second_row) }))
        ∙ ap (λ (c : Classes). Ok (record before { classes = c })) (changed (with_class_side_vars (v ∷ vs)) second_row))
        refl

    pub leads_class : Leads before (of_own_class name row) (λ t. t ≡ with_row row)
    leads_class =
        leads_first (Form (Define d)) (comment_of name row.comment ++ class_vars_of name row.class_side_vars) before (with_row first_row) (λ t. t ≡ with_row row) defines
        (leads_then (comment_of name row.comment) (class_vars_of name row.class_side_vars) (with_row first_row) (λ t. t ≡ with_row second_row) (λ t. t ≡ with_row row) (commented row.comment) (λ t is.
        subst (λ u. Leads u (class_vars_of name row.class_side_vars) (λ t. t ≡ with_row row)) (sym is) (given row.class_side_vars own.side_named own.side_single extent_given)))
