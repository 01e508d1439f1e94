-- The methods seen stand in the text, each in its line.
use Rattle.std.proofs.Common.{◌≡◌, take}
use Rattle.s80_model.specs.Sought.{places_text}
use Rattle.s80_model.proofs.sought.places_text.Given as goal

abbrev pub invariant-loop-i : goal.invariant-loop-i
invariant-loop-i l = l.text ≡ places_text (take l.i l.places)
