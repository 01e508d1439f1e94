-- The methods of the selectors so far.
use Rattle.std.proofs.Common.{◌≡◌, take}
use Rattle.std.specs.List.{flat_map}
use Rattle.std.specs.FinMap as map
use Rattle.s80_apply.specs.State.{State}
use Rattle.s80_apply.specs.System.{IsSystemOf}
use Rattle.s80_fileout.proofs.Categories.{method_piece}
use Rattle.s80_fileout.proofs.methods.methods_by_selector.Given as goal

abbrev pub invariant-loop-i : goal.invariant-loop-i
invariant-loop-i l = (state : State) → IsSystemOf l.system state
    → l.methods.items ≡ flat_map (λ selector. method_piece l.class_name l.side selector (map.get (state.methods l.class_name l.side) selector)) (take l.i (map.keys (state.methods l.class_name l.side)))
