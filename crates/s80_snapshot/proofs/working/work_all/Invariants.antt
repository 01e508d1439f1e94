-- The system has the state behind the changes so far.
use Rattle.std.proofs.Common.{take}
use Rattle.s80_apply.specs.List.{state_from}
use Rattle.s80_apply.specs.State.{kernel_state}
use Rattle.s80_apply.specs.System.{IsSystemOf}
use Rattle.s80_snapshot.specs.Resuming.{HasSomePlaces}
use Rattle.s80_snapshot.proofs.working.work_all.Given as goal

abbrev pub invariant-loop-i : goal.invariant-loop-i
invariant-loop-i l = record {
  state : IsSystemOf l.system (state_from kernel_state (take l.i l.changes));
  places : HasSomePlaces l.system;
}
