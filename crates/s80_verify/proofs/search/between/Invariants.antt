use Rattle.std.proofs.Common.{◌-◌, length}
use Rattle.s80_verify.specs.Found.{BetweenSoFar}
use Rattle.s80_verify.proofs.search.between.Given as goal

abbrev pub invariant-loop-point : goal.invariant-loop-point
invariant-loop-point l = BetweenSoFar l.code l.found l.between l.next

abbrev pub decreases-loop-point : goal.decreases-loop-point
decreases-loop-point l = length l.found.points - l.next
