-- The members so far.
use Rattle.std.proofs.Common.{length}
use Rattle.std.specs.Prelude.{None}
use Rattle.s80_image.specs.History.{noted}
use Rattle.s80_snapshot.proofs.Pieces.{SoFar}
use Rattle.s80_snapshot.proofs.encode.put_change_set.Given as goal

abbrev pub invariant-loop-member : goal.invariant-loop-member
invariant-loop-member l = SoFar (λ m. (noted None).spell m.now) l.member-items l.fn.out.items (length l.member-items) l.member-index l.out.items
