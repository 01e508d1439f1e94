use Rattle.std.proofs.Common.{◌≡◌, ◌-◌, drop, length}
use Rattle.s80_core.specs.Core.{core_of}
use Rattle.s80_core.specs.Elaborate.{assigned}
use Rattle.s80_core.specs.Walk.{meaning_in}
use Rattle.s80_core.proofs.elaboration.names.assigned.Given as goal

abbrev pub invariant-loop-passed : goal.invariant-loop-passed
invariant-loop-passed l = record {
  done : core_of l.made ≡ assigned (meaning_in l.home) (drop (length l.targets - l.passed) l.targets) (core_of l.fn.value);
}
