-- The entries so far are the same.
use Rattle.s80_code.specs.Entries.{entries_of}
use Rattle.s80_snapshot.proofs.SameCodes.{AreSoFar}
use Rattle.s80_snapshot.proofs.same_code.same_entries.Given as goal

abbrev pub invariant-loop-i : goal.invariant-loop-i
invariant-loop-i l = AreSoFar (entries_of l.one) (entries_of l.other) l.i
