-- How long the blocks so far are.
use Rattle.std.proofs.Common.{◌≡◌, length, take}
use Rattle.s80_change.specs.Block.{blocks}
use Rattle.s80_keeper.proofs.condense.length_of.Given as goal

abbrev pub invariant-loop-i : goal.invariant-loop-i
invariant-loop-i l = l.length ≡ length (blocks (take l.i l.changes))
