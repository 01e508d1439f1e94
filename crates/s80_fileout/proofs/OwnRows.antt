-- What every class of a list has that isn't the kernel's, and that they aren't too many.
use Rattle.std.proofs.Common.{◌≡◌, ◌∙◌, ◌≤◌, ◌+◌, ◌-◌, ℕ, Bool, cond, true, false, not, find, refl, sym, ap, subst, List, [], ◌∷◌, length, Option, Some, None, option_map, unwrap_or, true≢false, arith}
use Rattle.std.specs.Ordering.{nat_cmp}
use Rattle.std.specs.Cmp.Lexicographic.{slice_cmp, nat_list_cmp_total}
use Rattle.std.specs.FinMap as map
use Rattle.s80_kernel.specs.Rows.{KernelRow, kernel_rows, is_kernel_class}
use Rattle.s80_change.specs.declared.change.Change.{Change}
use Rattle.s80_form.specs.declared.definition.Definition.{Definition}
use Rattle.s80_form.specs.declared.refusal.Refusal.TheVariants.{BadName, Duplicate}
use Rattle.s80_form.specs.declared.refusal.ManyKind.TheVariants.{Classes as ManyClasses, InstanceVariables, ClassVariables, ClassSideVariables, Pools, BitsVariables}
use Rattle.s80_form.specs.Name.{is_name}
use Rattle.s80_class.specs.Classes.{Name, ClassRow, Classes, change_row, extent_of, with_class_side_vars, with_comment}
use Rattle.s80_class.proofs.lemmas.Alike.{alike_len}
use Rattle.s80_class.proofs.lemmas.Changed.{changed_alike, changed_elsewhere, changed_here}
use Rattle.s80_apply.specs.Accept.{above, bad_name, cycle, define, duplicate, first_again, kernel_class, kernel_name, refusal_of, refusal_of_class_vars, row_of, too_many, unknown_class, unknown_name}
use Rattle.s80_apply.specs.Kernel.{kernel_classes, kernel_row}
use Rattle.s80_apply.specs.List.{classes_of}
use Rattle.s80_apply.proofs.Booted.{built}
use Rattle.s80_apply.proofs.LastingDefined.{accepted_apart}
use Rattle.s80_apply.proofs.LastingLists.{in_each_list}
use Rattle.s80_apply.proofs.Passing.{few_enough, none_first}
use Rattle.s80_apply.proofs.Refusing.{accepted_where}
use Rattle.s80_fileout.specs.Condensed.{definition_of}
use Rattle.s80_fileout.specs.Lawful.{AreOwn, IsOwnRow}
use Rattle.s80_fileout.proofs.Keyed.{by_bytes, by_found, get_put_here, get_put_other, get_taken_here, get_taken_other, no_value, one_value}
use Rattle.s80_fileout.proofs.KernelCells.{there_kernel_class}

-- ---- what was accepted

record IsPassed (d : Definition) : Type 0 where
  named : bad_name d ≡ None
  single : duplicate d ≡ None
  class_vars : length d.class_vars ≤ 256
  pools : length d.pools ≤ 256

passed : (d : Definition) (classes : Classes) → refusal_of d classes ≡ None → IsPassed d
passed d classes h =
    let E = extent_of (define d classes) d.class_name in
    let bits = above 0 BitsVariables E.bits_variables in
    let pools = above 256 Pools (length d.pools) in
    let side = above 64 ClassSideVariables E.class_side_vars in
    let vars = above 256 ClassVariables (length d.class_vars) in
    let inst = above 64 InstanceVariables E.inst_vars in
    let many = above 65536 ManyClasses (map.len (define d classes)) in
    let a = none_first (bad_name d) (unknown_class d classes ∷ kernel_class d ∷ cycle d classes ∷ duplicate d ∷ too_many d classes ∷ []) h in
    let b = none_first (unknown_class d classes) (kernel_class d ∷ cycle d classes ∷ duplicate d ∷ too_many d classes ∷ []) a.1 in
    let c = none_first (kernel_class d) (cycle d classes ∷ duplicate d ∷ too_many d classes ∷ []) b.1 in
    let e = none_first (cycle d classes) (duplicate d ∷ too_many d classes ∷ []) c.1 in
    let f = none_first (duplicate d) (too_many d classes ∷ []) e.1 in
    let g = none_first (too_many d classes) [] f.1 in
    let m = none_first many (inst ∷ vars ∷ side ∷ pools ∷ bits ∷ []) g.0 in
    let n = none_first inst (vars ∷ side ∷ pools ∷ bits ∷ []) m.1 in
    let o = none_first vars (side ∷ pools ∷ bits ∷ []) n.1 in
    let q = none_first side (pools ∷ bits ∷ []) o.1 in
    let r = none_first pools (bits ∷ []) q.1 in
    record {
      named = a.0;
      single = f.0;
      class_vars = few_enough 256 ClassVariables (length d.class_vars) o.0;
      pools = few_enough 256 Pools (length d.pools) r.0;
    }

-- class-side variables that were accepted are lawful, and none stands twice
vars_passed : (name : Name) (names : List Name) (classes : Classes) → refusal_of_class_vars name names classes ≡ None
    → (option_map BadName (find (λ word. not (is_name word)) names) ≡ None) × (option_map Duplicate (first_again [] names) ≡ None)
vars_passed name names classes h =
    let bad = option_map BadName (find (λ word. not (is_name word)) names) in
    let again = option_map Duplicate (first_again [] names) in
    let many = above 64 ClassSideVariables (extent_of (change_row (with_class_side_vars names) name classes) name).class_side_vars in
    let a = none_first bad (unknown_name name classes ∷ kernel_name name ∷ again ∷ many ∷ []) h in
    let b = none_first (unknown_name name classes) (kernel_name name ∷ again ∷ many ∷ []) a.1 in
    let c = none_first (kernel_name name) (again ∷ many ∷ []) b.1 in
    let d = none_first again (many ∷ []) c.1 in
    (a.0, d.0)

-- ---- the rows

module _ (d : Definition) (classes : Classes) (none : refusal_of d classes ≡ None) (own : AreOwn classes) where
  defined_row : (o : Option ClassRow) → map.get classes d.class_name ≡ o → IsOwnRow d.class_name (row_of d o)
  defined_row None is =
      let ok = passed d classes none in
      record { superclass = d.superclass; above = refl; named = ok.named; single = ok.single; class_vars = ok.class_vars; pools = ok.pools; side_named = refl; side_single = refl }
  defined_row (Some old) is =
      let ok = passed d classes none in
      let was = own d.class_name old is (accepted_apart d classes none) in
      record { superclass = d.superclass; above = refl; named = ok.named; single = ok.single; class_vars = ok.class_vars; pools = ok.pools; side_named = was.side_named; side_single = was.side_single }

  defined_own : AreOwn (define d classes)
  defined_own name row is other = by_bytes name d.class_name
      (λ same.
      let here : row_of d (map.get classes d.class_name) ≡ row =
      one_value (map.get (define d classes) name) (row_of d (map.get classes d.class_name)) row
      (ap (map.get (define d classes)) same ∙ get_put_here classes d.class_name (row_of d (map.get classes d.class_name))) is in
      subst (λ n. IsOwnRow n row) (sym same) (subst (IsOwnRow d.class_name) here (defined_row (map.get classes d.class_name) refl)))
      (λ ne. own name row (sym (get_put_other classes d.class_name (row_of d (map.get classes d.class_name)) name ne) ∙ is) other)

-- a row changed, where what is told of it stays
changed_own : (change : ClassRow → ClassRow) (class : Name) (classes : Classes) → ((row : ClassRow) → IsOwnRow class row → IsOwnRow class (change row)) → AreOwn classes → AreOwn (change_row change class classes)
changed_own change class classes stays own name row is other = by_bytes name class
    (λ same. by_found (map.get classes class)
    (λ none. own name row (ap (λ (c : Classes). map.get c name) (sym (absent none)) ∙ is) other)
    (λ old was.
    let here : change old ≡ row = one_value (map.get (change_row change class classes) name) (change old) row (ap (map.get (change_row change class classes)) same ∙ changed_here change class classes old was) is in
    subst (λ n. IsOwnRow n row) (sym same) (subst (IsOwnRow class) here (stays old (own class old was (ap is_kernel_class (sym same) ∙ other))))))
    (λ ne. own name row (sym (changed_elsewhere change class classes name ne) ∙ is) other)
  where
    absent : map.get classes class ≡ None → change_row change class classes ≡ classes
    absent none = ap (λ o. unwrap_or (option_map (λ row. map.insert classes class (change row)) o) classes) none

given_own : (class : Name) (names : List Name) (classes : Classes) → refusal_of_class_vars class names classes ≡ None → AreOwn classes → AreOwn (change_row (with_class_side_vars names) class classes)
given_own class names classes none own =
    let ok = vars_passed class names classes none in
    changed_own (with_class_side_vars names) class classes (λ row was. record {
      superclass = was.superclass;
      above = was.above;
      named = was.named;
      single = was.single;
      class_vars = was.class_vars;
      pools = was.pools;
      side_named = ok.0;
      side_single = ok.1;
    }) own

commented_own : (class : Name) (text : List ℕ) (classes : Classes) → AreOwn classes → AreOwn (change_row (with_comment text) class classes)
commented_own class text classes own = changed_own (with_comment text) class classes (λ row was. record {
  superclass = was.superclass;
  above = was.above;
  named = was.named;
  single = was.single;
  class_vars = was.class_vars;
  pools = was.pools;
  side_named = was.side_named;
  side_single = was.side_single;
}) own

removed_own : (class : Name) (classes : Classes) → AreOwn classes → AreOwn (map.remove classes class)
removed_own class classes own name row is other = by_bytes name class
    (λ same. no_value (map.get (map.remove classes class) name) row (ap (map.get (map.remove classes class)) same ∙ get_taken_here classes class) is)
    (λ ne. own name row (sym (get_taken_other classes class name ne) ∙ is) other)

kernel_own : AreOwn kernel_classes
kernel_own name row is other = absurd (true≢false (sym (there_kernel_class name row is) ∙ other))

pub own_last : (changes : List Change) → AreOwn (classes_of changes)
own_last changes = in_each_list AreOwn (record {
  defined = λ d classes none own. defined_own d classes none own;
  given_vars = given_own;
  commented = commented_own;
  removed = λ name classes none own. removed_own name classes own;
}) kernel_own changes

-- ---- how many they are

abbrev AreFew : Classes → Type 0
AreFew classes = map.len classes ≤ 65536

one_more : (classes : Classes) (name : Name) (row : ClassRow) → map.len (map.insert classes name row) ≤ map.len classes + 1
one_more classes name row = go (map.contains_key classes name) (map.len-insert nat_list_cmp_total classes name row)
  where
    go : (b : Bool) → map.len (map.insert classes name row) ≡ cond b (map.len classes) (map.len classes + 1) → map.len (map.insert classes name row) ≤ map.len classes + 1
    go true is = omega (arith, is)
    go false is = omega (arith, is)

built_count : (rows : List KernelRow) → map.len (built rows) ≤ length rows
built_count [] = omega (arith, map.len-empty (slice_cmp nat_cmp) ClassRow)
built_count (r ∷ rows) = omega (arith, built_count rows, one_more (built rows) r.name (kernel_row r))

few_rows : length kernel_rows ≤ 65536
few_rows = omega arith

kernel_few : AreFew kernel_classes
unfolding kernel_classes
kernel_few = omega (arith, built_count kernel_rows, few_rows)

removed_few : (name : Name) (classes : Classes) → AreFew classes → AreFew (map.remove classes name)
removed_few name classes few = go (map.contains_key classes name) (map.len-remove nat_list_cmp_total classes name)
  where
    go : (b : Bool) → map.len (map.remove classes name) ≡ cond b (map.len classes - 1) (map.len classes) → map.len (map.remove classes name) ≤ 65536
    go true is = omega (arith, is, few)
    go false is = omega (arith, is, few)

changed_few : (change : ClassRow → ClassRow) (name : Name) (classes : Classes) → AreFew classes → AreFew (change_row change name classes)
changed_few change name classes few =
    let same = alike_len (λ _. tt {0}) classes (change_row change name classes) (changed_alike change name classes (λ _. tt {0}) (λ row. refl)) in
    omega (arith, same, few)

pub few_last : (changes : List Change) → map.len (classes_of changes) ≤ 65536
few_last changes = in_each_list AreFew (record {
  defined = λ d classes none few. (accepted_where d classes none).count;
  given_vars = λ name names classes none few. changed_few (with_class_side_vars names) name classes few;
  commented = λ name text classes few. changed_few (with_comment text) name classes few;
  removed = λ name classes none few. removed_few name classes few;
}) kernel_few changes
