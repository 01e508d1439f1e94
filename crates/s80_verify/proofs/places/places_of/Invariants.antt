use Rattle.std.proofs.Common.{◌-◌, length}
use Rattle.s80_verify.specs.Found.{PlacesSoFar}
use Rattle.s80_verify.proofs.places.places_of.Given as goal

abbrev pub invariant-loop-width : goal.invariant-loop-width
invariant-loop-width l = PlacesSoFar l.code.bytes l.before l.at

abbrev pub decreases-loop-width : goal.decreases-loop-width
decreases-loop-width l = length l.code.bytes - l.at
