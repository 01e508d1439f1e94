use Rattle.std.proofs.Common.{◌≡◌, ◌-◌, length}
use Rattle.std.specs.List.{list_any}
use Rattle.std.specs.Str.{bytes_eq}
use Rattle.s80_code.specs.Entries.{entries_of}
use Rattle.s80_xref.specs.Named.{sent_in}
use Rattle.s80_xref.proofs.Leading.{rest_sent}
use Rattle.s80_xref.proofs.code.sends.Given as goal

abbrev pub invariant-loop-instruction : goal.invariant-loop-instruction
invariant-loop-instruction l = list_any (bytes_eq l.selector) (rest_sent l.code.bytes (entries_of l.code.literals) l.at) ≡ list_any (bytes_eq l.selector) (sent_in l.code)

abbrev pub decreases-loop-instruction : goal.decreases-loop-instruction
decreases-loop-instruction l = length l.code.bytes - l.at
