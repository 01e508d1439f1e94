-- The methods of the selectors so far.
use Rattle.s80_apply.proofs.Recompiled.{IsAdding}
use Rattle.s80_apply.proofs.recompile.recompile_named.Given as goal

abbrev pub invariant-loop-i : goal.invariant-loop-i
invariant-loop-i l = IsAdding (record { table = l.classes; methods = l.methods }) l.class l.side l.selectors l.i l.fn.recompiled.items l.recompiled.items
