use Rattle.s80_code.specs.Entries.{entries_of, entry_of}
use Rattle.s80_compile.specs.Same.{AreOther}
use Rattle.s80_compile.proofs.entry.find.Given as goal

abbrev pub invariant-loop-number : goal.invariant-loop-number
invariant-loop-number l = AreOther (entries_of l.frame) l.number (entry_of l.entry)
