-- What makes the classes so far.
use Rattle.std.proofs.Common.{◌≡◌, ◌++◌, take}
use Rattle.std.specs.List.{flat_map}
use Rattle.s80_fileout.specs.Order.{own_class}
use Rattle.s80_image.specs.Classes.{classes_of}
use Rattle.s80_image.specs.Together.{classes_by_name}
use Rattle.s80_snapshot.proofs.class_changes.add_own_classes.Given as goal

abbrev pub invariant-loop-class : goal.invariant-loop-class
invariant-loop-class l = l.changes ≡ l.fn.changes ++ flat_map (λ class. own_class (classes_by_name (classes_of l.classes)) class.class_name) (take l.class-index l.class-items)
