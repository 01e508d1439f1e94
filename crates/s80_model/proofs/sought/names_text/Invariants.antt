-- The names seen stand in the text, each in its line.
use Rattle.std.proofs.Common.{◌≡◌, take}
use Rattle.s80_model.specs.Texts.{names_text}
use Rattle.s80_model.proofs.sought.names_text.Given as goal

abbrev pub invariant-loop-i : goal.invariant-loop-i
invariant-loop-i l = l.text ≡ names_text (take l.i l.names)
