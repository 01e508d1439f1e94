use Rattle.std.proofs.Common.{◌≡◌, ◌∙◌, sym, ap, subst, List, Option, Some, length, arith, slice_get}
use Rattle.std.specs.FinMap as map
use Rattle.std.specs.Ordering.{nat_cmp}
use Rattle.std.specs.Cmp.Lexicographic.{slice_cmp}
use Rattle.s80_class.specs.Classes.{Name, ClassRow}
use Rattle.s80_class.proofs.Indexed.{none_there}
use Rattle.s80_class.proofs.table.ClassTable.empty.Goals as goal

pub invariant_of-result : goal.invariant_of-result
invariant_of-result c = record {
  known = c.empty.ensures.known;
  totals = record {
    size = ap length c.new.ensures.items ∙ sym (ap length c.empty.ensures.names);
    each = λ number name named. absurd (none_there number (Some name) (subst (λ (names : List (Option Name)). slice_get names number ≡ Some (Some name)) c.empty.ensures.names named));
  };
  none_found = c.new-2.ensures.items;
  room = omega (arith, c.new.ensures.len, c.empty.ensures.spare);
  found_room = omega (arith, ap map.len c.empty.ensures.classes ∙ map.len-empty (slice_cmp nat_cmp) ClassRow, c.empty.ensures.spare);
}
