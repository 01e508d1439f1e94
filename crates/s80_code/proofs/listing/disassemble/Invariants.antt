use Rattle.std.proofs.Common.{◌-◌, length}
use Rattle.s80_code.proofs.LineLemmas.{SoFar}
use Rattle.s80_code.proofs.listing.disassemble.Given as goal

abbrev pub invariant-loop-width : goal.invariant-loop-width
invariant-loop-width l = SoFar l.code.bytes l.at l.text

abbrev pub decreases-loop-width : goal.decreases-loop-width
decreases-loop-width l = length l.code.bytes - l.at
