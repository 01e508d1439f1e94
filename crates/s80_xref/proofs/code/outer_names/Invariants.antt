use Rattle.std.proofs.Common.{◌≡◌, map, take}
use Rattle.s80_code.specs.Entries.{entry_of}
use Rattle.s80_xref.proofs.Naming.{outers}
use Rattle.s80_xref.proofs.code.outer_names.Given as goal

abbrev pub invariant-loop-entry : goal.invariant-loop-entry
invariant-loop-entry l = l.names ≡ outers (map entry_of (take l.entry-index l.entry-items))
