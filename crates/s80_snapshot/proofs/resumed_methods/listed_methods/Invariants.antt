-- The methods of the classes so far.
use Rattle.std.proofs.Common.{◌≡◌, take, map}
use Rattle.s80_image.specs.Classes.{classes_of}
use Rattle.s80_snapshot.specs.Resuming.{listed_of}
use Rattle.s80_snapshot.specs.Sources.{imaged_methods}
use Rattle.s80_snapshot.proofs.resumed_methods.listed_methods.Given as goal

abbrev pub invariant-loop-class : goal.invariant-loop-class
invariant-loop-class l = map listed_of l.methods.items ≡ imaged_methods (take l.class-index (classes_of l.classes))
