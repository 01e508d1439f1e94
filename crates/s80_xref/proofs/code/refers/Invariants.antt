use Rattle.std.proofs.Common.{◌≡◌, map, drop}
use Rattle.std.specs.List.{list_any}
use Rattle.std.specs.Str.{bytes_eq}
use Rattle.s80_code.specs.Entries.{entry_of}
use Rattle.s80_xref.proofs.Naming.{outers}
use Rattle.s80_xref.proofs.code.refers.Given as goal

abbrev pub invariant-loop-entry : goal.invariant-loop-entry
invariant-loop-entry l =
    list_any (bytes_eq l.name) (outers (map entry_of (drop l.entry-index l.entry-items))) ≡ list_any (bytes_eq l.name) (outers (map entry_of l.entry-items))
