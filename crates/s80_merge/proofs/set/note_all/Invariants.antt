-- The changes so far are accepted, and their keys noted.
use Rattle.std.proofs.Common.{take}
use Rattle.s80_apply.specs.State.{State}
use Rattle.s80_apply.specs.System.{IsSystemOf}
use Rattle.s80_merge.proofs.lemmas.Working.{IsSoFar}
use Rattle.s80_merge.proofs.set.note_all.Given as goal

abbrev pub invariant-loop-i : goal.invariant-loop-i
invariant-loop-i l = (state : State) → IsSystemOf l.fn.system state → IsSoFar state (take l.i l.changes) l.system l.touched
