-- What an accepted definition meets, and what it leaves of the other classes.
use Rattle.std.proofs.Common.{◌≡◌, ◌≤◌, ℕ, true, false, refl, subst, List, [], ◌∷◌, length, Some, None, map as list_map, arith}
use Rattle.std.specs.FinMap as map
use Rattle.s80_kernel.specs.Rows.{is_kernel_class}
use Rattle.s80_form.specs.declared.definition.Definition.{Definition}
use Rattle.s80_form.specs.declared.refusal.ManyKind.TheVariants.{Classes as ManyClasses, InstanceVariables, ClassVariables, ClassSideVariables, Pools, BitsVariables}
use Rattle.s80_class.specs.Classes.{Name, ClassRow, Classes, IsLine, IsValid, Inherited, lineage, inherited_in, inherited_of, is_under, extent_of, greatest, family}
use Rattle.s80_class.proofs.lemmas.Lines.{Entry, IsOver, lineage_line}
use Rattle.s80_apply.specs.Accept.{define, bad_name, unknown_class, kernel_class, cycle, duplicate, too_many, above, refusal_of}
use Rattle.s80_apply.proofs.Defined.{line_of, valid_defined, unmoved, head_row}
use Rattle.s80_apply.proofs.Extents.{counts}
use Rattle.s80_apply.proofs.Passing.{apart_name, few_enough, none_first}

-- ---- no check refuses

-- a definition that is accepted isn't of a class of the kernel
pub accepted_apart : (d : Definition) (classes : Classes) → refusal_of d classes ≡ None → is_kernel_class d.class_name ≡ false
accepted_apart d classes h =
    let a = none_first (bad_name d) (unknown_class d classes ∷ kernel_class d ∷ cycle d classes ∷ duplicate d ∷ too_many d classes ∷ []) h in
    let b = none_first (unknown_class d classes) (kernel_class d ∷ cycle d classes ∷ duplicate d ∷ too_many d classes ∷ []) a.1 in
    let c = none_first (kernel_class d) (cycle d classes ∷ duplicate d ∷ too_many d classes ∷ []) b.1 in
    apart_name d.class_name c.0

-- nor does it leave a variable in a class of bytes or words
pub accepted_bits : (d : Definition) (classes : Classes) → refusal_of d classes ≡ None → (extent_of (define d classes) d.class_name).bits_variables ≤ 0
accepted_bits d classes h =
    let E = extent_of (define d classes) d.class_name in
    let bits = above 0 BitsVariables E.bits_variables in
    let pools = above 256 Pools (length d.pools) in
    let side = above 64 ClassSideVariables E.class_side_vars in
    let vars = above 256 ClassVariables (length d.class_vars) in
    let inst = above 64 InstanceVariables E.inst_vars in
    let many = above 65536 ManyClasses (map.len (define d classes)) in
    let a = none_first (bad_name d) (unknown_class d classes ∷ kernel_class d ∷ cycle d classes ∷ duplicate d ∷ too_many d classes ∷ []) h in
    let b = none_first (unknown_class d classes) (kernel_class d ∷ cycle d classes ∷ duplicate d ∷ too_many d classes ∷ []) a.1 in
    let c = none_first (kernel_class d) (cycle d classes ∷ duplicate d ∷ too_many d classes ∷ []) b.1 in
    let e = none_first (cycle d classes) (duplicate d ∷ too_many d classes ∷ []) c.1 in
    let f = none_first (duplicate d) (too_many d classes ∷ []) e.1 in
    let g = none_first (too_many d classes) [] f.1 in
    let m = none_first many (inst ∷ vars ∷ side ∷ pools ∷ bits ∷ []) g.0 in
    let n = none_first inst (vars ∷ side ∷ pools ∷ bits ∷ []) m.1 in
    let o = none_first vars (side ∷ pools ∷ bits ∷ []) n.1 in
    let q = none_first side (pools ∷ bits ∷ []) o.1 in
    let r = none_first pools (bits ∷ []) q.1 in
    let s = none_first bits [] r.1 in
    few_enough 0 BitsVariables E.bits_variables s.0

-- ---- the map with one class put in

module _ (classes : Classes) (name : Name) (row : ClassRow) (valid : IsValid classes) (over : IsOver classes name row.superclass) where
  abbrev new : Classes
  new = map.insert classes name row

  -- what bounds the class and its descendants, and each class of before, bounds each
  pub each_bounded : (count : Inherited → ℕ) (most : ℕ) → ((q : Name) (r : ClassRow) → map.get classes q ≡ Some r → count (inherited_of classes q) ≤ most)
      → greatest count (list_map (inherited_of new) (family new name)) ≤ most → (q : Name) (r : ClassRow) → map.get new q ≡ Some r → count (inherited_of new q) ≤ most
  each_bounded count most old here q r is = elim (is_under new q name) as (λ b. is_under new q name ≡ b → count (inherited_of new q) ≤ most) [
    | true ↦ λ h. let mine : count (inherited_of new q) ≤ greatest count (list_map (inherited_of new) (family new name)) = counts count new name q r is h in omega (arith, mine, here)
    | false ↦ λ h.
        let line : IsLine classes (Some q) (lineage new q) = unmoved classes name row valid over q (lineage new q) (line_of new q r (valid_defined classes name row valid over) is) h in
        let same : lineage classes q ≡ lineage new q = lineage_line classes q (lineage new q) line in
        let known = head_row classes q (lineage new q) line in
        let before : count (inherited_of classes q) ≤ most = old q known.0 known.1 in
        subst (λ (es : List Entry). count (inherited_in es) ≤ most) same before
  ] refl
