-- The classes of each list keep within the limits, and those of bytes and words have no variables.
use Rattle.std.proofs.Common.{◌≡◌, ◌≤◌, ℕ, Bool, cond, true, false, sym, subst, List, Some, None, arith}
use Rattle.std.specs.FinMap as map
use Rattle.s80_change.specs.declared.change.Change.{Change}
use Rattle.s80_form.specs.declared.definition.Definition.{Definition}
use Rattle.s80_class.specs.Classes.{Name, ClassRow, Classes, Inherited, IsValid, change_row, extent_of, inherited_of, is_bits, bits_variables_of, with_class_side_vars, with_comment}
use Rattle.s80_class.proofs.lemmas.Alike.{alike_row_back}
use Rattle.s80_class.proofs.lemmas.Changed.{changed_there}
use Rattle.s80_class.proofs.lemmas.Commented.{are_commented, bare, commented_inherited, commented_valid}
use Rattle.s80_class.proofs.lemmas.Most.{some_row}
use Rattle.s80_class.proofs.lemmas.Removed.{left_inherited, left_row, left_valid}
use Rattle.s80_apply.specs.Accept.{row_of, define, refusal_of, refusal_of_class_vars, refusal_of_removal}
use Rattle.s80_apply.specs.Kernel.{kernel_classes}
use Rattle.s80_apply.specs.List.{classes_of}
use Rattle.s80_apply.proofs.Refusing.{IsAccepted, accepted_where, over as over_of, valid_after}
use Rattle.s80_apply.proofs.GivenVars.{given_before, given_bits, given_inst_vars, given_valid, over_own}
use Rattle.s80_apply.proofs.Passing.{removal_accepted, vars_accepted}
use Rattle.s80_apply.proofs.LastingDefined.{accepted_bits, each_bounded}
use Rattle.s80_apply.proofs.LastingKernel.{has_row, stands_first, kernel_line, kernel_few, few_parts}
use Rattle.s80_apply.proofs.LastingLists.{in_each_list}

pub record AreWithin (classes : Classes) : Type 0 where
  pub valid : IsValid classes
  pub inst_vars : (name : Name) (row : ClassRow) → map.get classes name ≡ Some row → (inherited_of classes name).inst_vars ≤ 64
  pub class_side_vars : (name : Name) (row : ClassRow) → map.get classes name ≡ Some row → (inherited_of classes name).class_side_vars ≤ 64
  pub bits_variables : (name : Name) (row : ClassRow) → map.get classes name ≡ Some row → bits_variables_of (inherited_of classes name) ≤ 0

within_first : AreWithin kernel_classes
within_first = record {
  valid = λ name row is. kernel_line kernel_classes stands_first name (has_row name row is);
  inst_vars = λ name row is. (parts name row is).0;
  class_side_vars = λ name row is. let none = (parts name row is).1 in omega (arith, none);
  bits_variables = λ name row is. (parts name row is).2;
}
  where
    parts : (name : Name) (row : ClassRow) → map.get kernel_classes name ≡ Some row
        → ((inherited_of kernel_classes name).inst_vars ≤ 64) × ((inherited_of kernel_classes name).class_side_vars ≤ 0) × (bits_variables_of (inherited_of kernel_classes name) ≤ 0)
    parts name row is = few_parts (inherited_of kernel_classes name) (kernel_few kernel_classes stands_first name (has_row name row is))

within_defined : (d : Definition) (classes : Classes) → refusal_of d classes ≡ None → AreWithin classes → AreWithin (define d classes)
within_defined d classes none within =
    let ok : IsAccepted d classes = accepted_where d classes none in
    record {
      valid = valid_after d classes within.valid ok.known ok.acyclic;
      inst_vars = each_bounded classes d.class_name (row_of d (map.get classes d.class_name)) within.valid (over_of d classes within.valid ok.known ok.acyclic) (λ t. t.inst_vars) 64 within.inst_vars ok.inst_vars;
      class_side_vars = each_bounded classes d.class_name (row_of d (map.get classes d.class_name)) within.valid (over_of d classes within.valid ok.known ok.acyclic) (λ t. t.class_side_vars) 64 within.class_side_vars ok.class_side_vars;
      bits_variables = each_bounded classes d.class_name (row_of d (map.get classes d.class_name)) within.valid (over_of d classes within.valid ok.known ok.acyclic) bits_variables_of 0 within.bits_variables (accepted_bits d classes none);
    }

within_given_vars : (name : Name) (names : List Name) (classes : Classes) → refusal_of_class_vars name names classes ≡ None → AreWithin classes → AreWithin (change_row (with_class_side_vars names) name classes)
within_given_vars name names classes none within =
    let ok = vars_accepted name names classes none in
    let old = some_row classes name ok.known in
    let row : ClassRow = with_class_side_vars names old.0 in
    let made : change_row (with_class_side_vars names) name classes ≡ map.insert classes name row = changed_there (with_class_side_vars names) name classes old.0 old.1 in
    let few : (extent_of (map.insert classes name row) name).class_side_vars ≤ 64 = subst (λ (c : Classes). (extent_of c name).class_side_vars ≤ 64) made ok.few in
    let before = given_before name names classes in
    record {
      valid = given_valid name names classes within.valid;
      inst_vars = λ q now is. let was = before q now is in subst (λ n. n ≤ 64) (sym (given_inst_vars name names classes q)) (within.inst_vars q was.0 was.1);
      class_side_vars =
          subst (λ (c : Classes). (q : Name) (r : ClassRow) → map.get c q ≡ Some r → (inherited_of c q).class_side_vars ≤ 64) (sym made)
          (each_bounded classes name row within.valid (over_own classes name old.0 within.valid old.1) (λ t. t.class_side_vars) 64 within.class_side_vars few);
      bits_variables = λ q now is. let was = before q now is in subst (λ n. n ≤ 0) (sym (given_bits name names classes q)) (within.bits_variables q was.0 was.1);
    }

within_commented : (name : Name) (text : List ℕ) (classes : Classes) → AreWithin classes → AreWithin (change_row (with_comment text) name classes)
within_commented name text classes within =
    let now : Classes = change_row (with_comment text) name classes in
    let alike = are_commented text name classes in
    let same = commented_inherited classes now alike in
    let before : (q : Name) (r : ClassRow) → map.get now q ≡ Some r → (row : ClassRow) × (map.get classes q ≡ Some row) = λ q r is. (let row = alike_row_back bare classes now alike q r is in (row.0, row.1)) in
    record {
      valid = commented_valid classes now alike within.valid;
      inst_vars = λ q r is. let was = before q r is in subst (λ (t : Inherited). t.inst_vars ≤ 64) (sym (same q)) (within.inst_vars q was.0 was.1);
      class_side_vars = λ q r is. let was = before q r is in subst (λ (t : Inherited). t.class_side_vars ≤ 64) (sym (same q)) (within.class_side_vars q was.0 was.1);
      bits_variables = λ q r is. let was = before q r is in subst (λ (t : Inherited). bits_variables_of t ≤ 0) (sym (same q)) (within.bits_variables q was.0 was.1);
    }

within_removed : (name : Name) (classes : Classes) → refusal_of_removal name classes ≡ None → AreWithin classes → AreWithin (map.remove classes name)
within_removed name classes none within =
    let alone = (removal_accepted name classes none).alone in
    let was = left_row classes name in
    let same : (q : Name) (r : ClassRow) → map.get (map.remove classes name) q ≡ Some r → inherited_of classes q ≡ inherited_of (map.remove classes name) q = λ q r is. sym (left_inherited classes name alone within.valid q (was q r is).0) in
    record {
      valid = left_valid classes name alone within.valid;
      inst_vars = λ q r is. subst (λ (t : Inherited). t.inst_vars ≤ 64) (same q r is) (within.inst_vars q r (was q r is).1);
      class_side_vars = λ q r is. subst (λ (t : Inherited). t.class_side_vars ≤ 64) (same q r is) (within.class_side_vars q r (was q r is).1);
      bits_variables = λ q r is. subst (λ (t : Inherited). bits_variables_of t ≤ 0) (same q r is) (within.bits_variables q r (was q r is).1);
    }

pub within_last : (changes : List Change) → AreWithin (classes_of changes)
within_last changes = in_each_list AreWithin (record { defined = within_defined; given_vars = within_given_vars; commented = within_commented; removed = within_removed }) within_first changes

pub no_bits : (changes : List Change) (name : Name) (row : ClassRow) → map.get (classes_of changes) name ≡ Some row → is_bits (inherited_of (classes_of changes) name).kind ≡ true
    → (inherited_of (classes_of changes) name).inst_vars ≡ 0
no_bits changes name row is bits = none (is_bits (inherited_of (classes_of changes) name).kind) (inherited_of (classes_of changes) name).inst_vars bits ((within_last changes).bits_variables name row is)
  where
    none : (b : Bool) (n : ℕ) → b ≡ true → cond b n 0 ≤ 0 → n ≡ 0
    none true n _ le = omega (arith, le)
    none false n bad le = absurd (cc)
