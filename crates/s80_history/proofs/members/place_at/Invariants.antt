use Rattle.std.proofs.Common.{◌≡◌, drop, slice_get}
use Rattle.s80_history.specs.Members.{gaps}
use Rattle.s80_history.proofs.Counting.{places_in}
use Rattle.s80_history.proofs.members.place_at.Given as goal

abbrev pub invariant-loop-k : goal.invariant-loop-k
invariant-loop-k l = slice_get (places_in (drop l.k (gaps l.members))) l.left ≡ slice_get (places_in (gaps l.members)) l.i
