-- The removals so far.
use Rattle.std.proofs.Common.{◌≡◌, ◌++◌, take}
use Rattle.std.specs.List.{flat_map}
use Rattle.std.specs.FinMap as map
use Rattle.s80_apply.specs.State.{State, kernel_state}
use Rattle.s80_apply.specs.System.{IsSystemOf}
use Rattle.s80_fileout.proofs.Made.{removal_piece}
use Rattle.s80_fileout.proofs.classes.add_removals.Given as goal

abbrev pub invariant-loop-i : goal.invariant-loop-i
invariant-loop-i l = (state : State) → IsSystemOf l.system state
    → l.changes ≡ l.fn.changes ++ flat_map (removal_piece state l.class_name l.side) (take l.i (map.keys (kernel_state.methods l.class_name l.side)))
