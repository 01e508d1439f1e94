-- The methods of the classes seen were counted.
use Rattle.std.proofs.Common.{◌≡◌, take}
use Rattle.s80_apply.specs.State.{State}
use Rattle.s80_apply.specs.System.{IsSystemOf}
use Rattle.s80_model.specs.Texts.{own_methods_of}
use Rattle.s80_model.proofs.told.own_methods.Given as goal

abbrev pub invariant-loop-i : goal.invariant-loop-i
invariant-loop-i l = (state : State) → IsSystemOf l.system state → l.count ≡ own_methods_of state (take l.i l.names-inside.names.items)
