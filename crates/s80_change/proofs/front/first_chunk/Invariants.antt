use Rattle.std.proofs.Common.{◌≡◌, ◌++◌, length}
use Rattle.s80_chunk.specs.Chunks.{spell}
use Rattle.s80_change.proofs.front.first_chunk.Given as goal

abbrev pub invariant-bytes : goal.invariant-bytes
invariant-bytes l = l.bytes ≡ spell l.text ++ l.rest

abbrev pub decreases-bytes : goal.decreases-bytes
decreases-bytes l = length l.rest
