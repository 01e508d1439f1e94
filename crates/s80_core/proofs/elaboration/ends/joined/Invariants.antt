use Rattle.std.proofs.Common.{◌≡◌, map, length}
use Rattle.s80_core.specs.Core.{core_of}
use Rattle.s80_core.specs.Walk.{joined}
use Rattle.s80_core.proofs.elaboration.ends.joined.Given as goal

abbrev pub invariant-loop-core : goal.invariant-loop-core
invariant-loop-core l = record {
  done : joined (map core_of l.before.items) (core_of l.made) ≡ joined (map core_of l.fn.before.items) (core_of l.fn.last);
}

abbrev pub decreases-loop-core : goal.decreases-loop-core
decreases-loop-core l = length l.before.items
