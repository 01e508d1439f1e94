use Rattle.std.proofs.Common.{◌≡◌, length, take}
use Rattle.s80_history.specs.Members.{filled, gaps}
use Rattle.s80_history.proofs.members.count.Given as goal

abbrev pub invariant-loop-i : goal.invariant-loop-i
invariant-loop-i l = l.count ≡ length (filled (take l.i (gaps l.members)))
