use Rattle.std.proofs.Common.{take}
use Rattle.s80_form.specs.Name.{AreBrief}
use Rattle.s80_form.proofs.name.are_brief.Given as goal

abbrev pub invariant-loop-i : goal.invariant-loop-i
invariant-loop-i l = AreBrief (take l.i l.names)
