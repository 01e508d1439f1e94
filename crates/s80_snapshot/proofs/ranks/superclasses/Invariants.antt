-- The superclasses of the classes so far.
use Rattle.std.proofs.Common.{◌≡◌, take, map}
use Rattle.s80_image.specs.Classes.{classes_of}
use Rattle.s80_snapshot.specs.Resuming.{superclass_place}
use Rattle.s80_snapshot.proofs.ranks.superclasses.Given as goal

abbrev pub invariant-loop-class : goal.invariant-loop-class
invariant-loop-class l = l.above.items ≡ map (superclass_place (classes_of l.classes)) (take l.class-index (classes_of l.classes))
