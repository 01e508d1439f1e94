-- The classes so far.
use Rattle.std.proofs.Common.{◌≡◌, take}
use Rattle.std.specs.List.{flat_map}
use Rattle.s80_image.specs.Classes.{classes_of}
use Rattle.s80_snapshot.specs.Resuming.{AreOrdered}
use Rattle.s80_snapshot.proofs.MadeInOrder.{rank_piece}
use Rattle.s80_snapshot.proofs.ranks.named_classes.Given as goal

abbrev pub invariant-loop-place : goal.invariant-loop-place
invariant-loop-place l = l.own.items ≡ flat_map (rank_piece (classes_of l.classes)) (take l.place (classes_of l.classes))
