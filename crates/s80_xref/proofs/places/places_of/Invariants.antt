-- Those of the classes so far.
use Rattle.std.proofs.Common.{take}
use Rattle.std.specs.FinMap as map
use Rattle.std.specs.List.{flat_map}
use Rattle.s80_apply.specs.State.{State}
use Rattle.s80_apply.specs.System.{IsSystemOf}
use Rattle.s80_xref.specs.Links.{IsLink, places_of}
use Rattle.s80_xref.specs.Places.{AreThose}
use Rattle.s80_xref.proofs.places.places_of.Given as goal

abbrev pub invariant-loop-i : goal.invariant-loop-i
invariant-loop-i l = (state : State) → IsSystemOf l.system state → AreThose (IsLink l.link state l.word) (flat_map (places_of state) (take l.i (map.keys state.classes))) l.places
