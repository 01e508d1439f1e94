use Rattle.std.proofs.Common.{◌≡◌, ◌++◌, List, vec_capacity}
use Rattle.s80_class.specs.Family.{Found}
use Rattle.s80_class.proofs.Indexed.{IsRead}
use Rattle.s80_class.proofs.tree.ClassTree.find_below.Given as goal

abbrev pub invariant-loop-at : goal.invariant-loop-at
invariant-loop-at l = record {
  so_far : (more : List Found) × (l.found.items ≡ l.fn.found.items ++ more) × IsRead l.self l.number l.totals l.self-inside.subclasses.items l.first l.at more;
  capacity : vec_capacity l.found ≡ vec_capacity l.fn.found;
}
