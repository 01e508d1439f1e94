-- The names seen, with one space between them.
use Rattle.std.proofs.Common.{◌≡◌, take}
use Rattle.s80_form.specs.Definition.{joined}
use Rattle.s80_form.proofs.names.joined.Given as goal

abbrev pub invariant-loop-i : goal.invariant-loop-i
invariant-loop-i l = l.text ≡ joined (take l.i l.names)
