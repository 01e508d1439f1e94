use Rattle.std.proofs.Common.{◌≡◌, vec_capacity}
use Rattle.s80_class.proofs.Families.{IsFound}
use Rattle.s80_class.proofs.tree.ClassTree.family.Given as goal

abbrev pub invariant-loop-next : goal.invariant-loop-next
invariant-loop-next l = record {
  so_far : IsFound l.self l.c l.fn.top l.found.items l.next;
  capacity : vec_capacity l.found ≡ vec_capacity l.fn.found;
}
