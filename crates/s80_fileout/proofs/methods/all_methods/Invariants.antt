-- The methods of the classes so far.
use Rattle.std.proofs.Common.{◌≡◌, take}
use Rattle.std.specs.List.{flat_map}
use Rattle.std.specs.FinMap as map
use Rattle.s80_apply.specs.State.{State}
use Rattle.s80_apply.specs.System.{IsSystemOf}
use Rattle.s80_fileout.specs.Order.{methods_in}
use Rattle.s80_fileout.proofs.methods.all_methods.Given as goal

abbrev pub invariant-loop-i : goal.invariant-loop-i
invariant-loop-i l = (state : State) → IsSystemOf l.system state → l.methods.items ≡ flat_map (methods_in state) (take l.i (map.keys state.classes))
