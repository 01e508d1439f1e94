use Rattle.std.proofs.Common.{◌≡◌, drop, slice_get}
use Rattle.s80_history.specs.Members.{filled, gaps}
use Rattle.s80_history.proofs.members.member_at.Given as goal

abbrev pub invariant-loop-k : goal.invariant-loop-k
invariant-loop-k l = slice_get (filled (drop l.k (gaps l.members))) l.left ≡ slice_get (filled (gaps l.members)) l.i
