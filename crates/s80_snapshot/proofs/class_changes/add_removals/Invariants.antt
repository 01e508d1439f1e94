-- The removals so far.
use Rattle.std.proofs.Common.{◌≡◌, ◌++◌, take}
use Rattle.std.specs.List.{flat_map}
use Rattle.std.specs.FinMap as map
use Rattle.s80_apply.specs.State.{kernel_state}
use Rattle.s80_image.specs.Methods.{methods_of}
use Rattle.s80_snapshot.specs.Resuming.{removal_from}
use Rattle.s80_snapshot.proofs.class_changes.add_removals.Given as goal

abbrev pub invariant-loop-i : goal.invariant-loop-i
invariant-loop-i l = l.changes ≡ l.fn.changes ++ flat_map (removal_from l.class_name l.side (methods_of l.methods)) (take l.i (map.keys (kernel_state.methods l.class_name l.side)))
