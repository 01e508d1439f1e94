-- The names seen, without the kernel's, were counted.
use Rattle.s80_model.proofs.Telling.{IsCounted, is_own_class}
use Rattle.s80_model.proofs.told.own_classes.Given as goal

abbrev pub invariant-loop-i : goal.invariant-loop-i
invariant-loop-i l = IsCounted is_own_class l.names-inside.names.items l.i l.count
