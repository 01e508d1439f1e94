use Rattle.s80_machine.specs.Came.{given_of}
use Rattle.s80_machine.proofs.CameRuns.{IsOnItsWay, left_in}
use Rattle.s80_machine.proofs.execution.finish.Given as goal

abbrev pub invariant-loop-halt : goal.invariant-loop-halt
invariant-loop-halt l = IsOnItsWay (given_of l.on) l.machine

abbrev pub decreases-loop-halt : goal.decreases-loop-halt
decreases-loop-halt l = left_in l.on.budget l.machine
