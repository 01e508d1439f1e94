-- Those of the classes so far.
use Rattle.std.proofs.Common.{◌↔◌, ℕ, List, take}
use Rattle.std.specs.FinMap as map
use Rattle.std.specs.List.{Contains, flat_map}
use Rattle.s80_apply.specs.State.{State}
use Rattle.s80_apply.specs.System.{IsSystemOf}
use Rattle.s80_xref.specs.Found.{IsOfSome}
use Rattle.s80_xref.specs.Links.{IsLink, places_of}
use Rattle.s80_xref.proofs.words.linked_words.Given as goal

abbrev pub invariant-loop-i : goal.invariant-loop-i
invariant-loop-i l = (state : State) → IsSystemOf l.system state
    → (word : List ℕ) → Contains l.words word ↔ IsOfSome (IsLink l.link state) (flat_map (places_of state) (take l.i (map.keys state.classes))) word
