use Rattle.std.proofs.Common.{refl, arith}
use Rattle.s80_class.proofs.Keeping.{none_kept}
use Rattle.s80_class.proofs.Families.{known_table}
use Rattle.s80_class.proofs.Indexed.{none_indexed}
use Rattle.s80_class.proofs.tree.ClassTree.empty.Goals as goal

pub invariant_of-result : goal.invariant_of-result
invariant_of-result c = record {
  kept = rw (c.new.ensures.items, c.new-2.ensures.items) none_kept;
  indexed = rw (c.new.ensures.items, c.new-3.ensures.items) none_indexed;
  room = omega arith;
  order_room = omega arith;
  below_room = omega arith;
  numbers = omega arith;
}

pub returns-clause-known : goal.returns-clause-known
returns-clause-known c = known_table c.new.result.items c.new-2.result.items (rw (c.new.ensures.items, c.new-2.ensures.items) none_kept) 0 _ refl
