use Rattle.std.proofs.Common.{◌-◌, length}
use Rattle.s80_verify.specs.Found.{ClearSoFar}
use Rattle.s80_verify.proofs.search.check_jumps.Given as goal

abbrev pub invariant-loop-point : goal.invariant-loop-point
invariant-loop-point l = ClearSoFar l.code l.found l.next

abbrev pub decreases-loop-point : goal.decreases-loop-point
decreases-loop-point l = length l.found.points - l.next
