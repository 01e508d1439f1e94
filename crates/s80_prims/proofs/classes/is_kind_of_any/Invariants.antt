-- The class is none of those before, and descends from none.
use Rattle.std.proofs.Common.{◌≡◌, false, take}
use Rattle.std.specs.List.{list_any}
use Rattle.s80_class.specs.Table.{class_name}
use Rattle.s80_prims.specs.Classes.{is_kind_of}
use Rattle.s80_prims.proofs.classes.is_kind_of_any.Given as goal

abbrev pub invariant-loop-of : goal.invariant-loop-of
invariant-loop-of l = list_any (λ n. is_kind_of l.classes l.c (class_name l.classes n)) (take l.of-index l.others) ≡ false
