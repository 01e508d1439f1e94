use Rattle.std.proofs.Common.{◌≡◌, take}
use Rattle.s80_base.proofs.names.Names.copy.Given as goal

abbrev pub invariant-loop-name : goal.invariant-loop-name
invariant-loop-name l = l.copy ≡ take l.name-index l.name-items
