-- The classes so far.
use Rattle.std.proofs.Common.{◌≡◌, take}
use Rattle.std.specs.List.{flat_map}
use Rattle.std.specs.FinMap as map
use Rattle.s80_fileout.proofs.Owned.{class_piece}
use Rattle.s80_fileout.proofs.order.named_classes.Given as goal

abbrev pub invariant-loop-i : goal.invariant-loop-i
invariant-loop-i l = l.own.items ≡ flat_map (class_piece l.classes.classes) (take l.i (map.keys l.classes.classes))
