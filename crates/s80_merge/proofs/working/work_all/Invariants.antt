-- The system has the state behind the changes so far.
use Rattle.std.proofs.Common.{take}
use Rattle.s80_apply.specs.List.{state_from}
use Rattle.s80_apply.specs.State.{State}
use Rattle.s80_apply.specs.System.{IsSystemOf}
use Rattle.s80_merge.proofs.working.work_all.Given as goal

abbrev pub invariant-loop-i : goal.invariant-loop-i
invariant-loop-i l = (state : State) → IsSystemOf l.fn.system state → IsSystemOf l.system (state_from state (take l.i l.changes))
