-- What makes the classes so far.
use Rattle.std.proofs.Common.{◌≡◌, ◌++◌, take}
use Rattle.std.specs.List.{flat_map}
use Rattle.s80_image.specs.Classes.{classes_of}
use Rattle.s80_snapshot.specs.Resuming.{kernel_class}
use Rattle.s80_snapshot.proofs.class_changes.add_kernel_classes.Given as goal

abbrev pub invariant-loop-class : goal.invariant-loop-class
invariant-loop-class l = l.changes ≡ l.fn.changes ++ flat_map kernel_class (take l.class-index (classes_of l.classes))
