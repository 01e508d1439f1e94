use Rattle.std.proofs.Common.{take}
use Rattle.s80_form.specs.Name.{AreNames}
use Rattle.s80_form.proofs.read.are_names.Given as goal

abbrev pub invariant-loop-i : goal.invariant-loop-i
invariant-loop-i l = AreNames (take l.i l.names)
