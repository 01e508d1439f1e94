-- What makes the classes so far.
use Rattle.std.proofs.Common.{◌≡◌, ◌++◌, take}
use Rattle.std.specs.List.{flat_map}
use Rattle.s80_fileout.specs.Order.{own_class}
use Rattle.s80_fileout.proofs.classes.add_own_classes.Given as goal

abbrev pub invariant-loop-class : goal.invariant-loop-class
invariant-loop-class l = l.changes ≡ l.fn.changes ++ flat_map (λ class. own_class l.classes.classes class.class_name) (take l.class-index l.class-items)
