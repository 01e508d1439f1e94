-- So many classes were passed, and the others stand from here on.
use Rattle.std.proofs.Common.{length}
use Rattle.s80_snapshot.proofs.ClassPlaces.{IsPassed}
use Rattle.s80_snapshot.proofs.ranks.depth.Given as goal

abbrev pub invariant-loop-depth : goal.invariant-loop-depth
invariant-loop-depth l = IsPassed l.above l.place (length l.above) l.depth l.next
