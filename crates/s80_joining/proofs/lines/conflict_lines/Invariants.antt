-- The text has the lines of the keys so far.
use Rattle.std.proofs.Common.{◌≡◌, take}
use Rattle.s80_joining.specs.Answer.{conflict_lines}
use Rattle.s80_joining.proofs.lines.conflict_lines.Given as goal

abbrev pub invariant-loop-i : goal.invariant-loop-i
invariant-loop-i l = l.text ≡ conflict_lines (take l.i l.keys)
