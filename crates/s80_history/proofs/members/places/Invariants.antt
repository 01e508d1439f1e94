use Rattle.std.proofs.Common.{◌≡◌, take}
use Rattle.s80_history.specs.Members.{gaps}
use Rattle.s80_history.proofs.Counting.{places_in}
use Rattle.s80_history.proofs.members.places.Given as goal

abbrev pub invariant-loop-i : goal.invariant-loop-i
invariant-loop-i l = l.places.items ≡ places_in (take l.i (gaps l.members))
