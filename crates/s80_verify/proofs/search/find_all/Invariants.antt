use Rattle.std.proofs.Common.{◌-◌}
use Rattle.s80_verify.specs.Found.{Searched}
use Rattle.s80_verify.proofs.search.find_all.Given as goal

abbrev pub invariant-loop-point : goal.invariant-loop-point
invariant-loop-point l = Searched l.code l.found l.next

abbrev pub decreases-loop-point : goal.decreases-loop-point
decreases-loop-point l = 2048 - l.next
