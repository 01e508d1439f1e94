-- The methods of the classes so far.
use Rattle.s80_apply.proofs.Recompiled.{IsCompiling}
use Rattle.s80_apply.proofs.recompile.recompiled_family.Given as goal

abbrev pub invariant-loop-class : goal.invariant-loop-class
invariant-loop-class l = IsCompiling (record { table = l.classes; methods = l.methods }) l.class-items l.class-index l.recompiled.items
