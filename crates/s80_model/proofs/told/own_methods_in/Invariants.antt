-- The selectors seen, without those of the kernel's methods, were counted.
use Rattle.s80_model.proofs.Telling.{IsCounted, is_own_in}
use Rattle.s80_model.proofs.told.own_methods_in.Given as goal

abbrev pub invariant-loop-i : goal.invariant-loop-i
invariant-loop-i l = IsCounted (is_own_in l.name l.side l.methods.methods) l.selectors-inside.names.items l.i l.count
