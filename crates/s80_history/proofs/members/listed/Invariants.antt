use Rattle.std.proofs.Common.{◌≡◌, map as list_map, take}
use Rattle.s80_history.specs.Members.{filled, gaps}
use Rattle.s80_history.proofs.members.listed.Given as goal

abbrev pub invariant-loop-i : goal.invariant-loop-i
invariant-loop-i l = list_map (λ m. m.now) l.listed.items ≡ filled (take l.i (gaps l.members))
