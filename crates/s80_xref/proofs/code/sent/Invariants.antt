use Rattle.std.proofs.Common.{◌≡◌, ◌++◌, ◌-◌, length}
use Rattle.s80_code.specs.Entries.{entries_of}
use Rattle.s80_xref.specs.Named.{sent_in}
use Rattle.s80_xref.proofs.Leading.{rest_sent}
use Rattle.s80_xref.proofs.code.sent.Given as goal

abbrev pub invariant-loop-instruction : goal.invariant-loop-instruction
invariant-loop-instruction l = l.names ++ rest_sent l.code.bytes (entries_of l.code.literals) l.at ≡ sent_in l.code

abbrev pub decreases-loop-instruction : goal.decreases-loop-instruction
decreases-loop-instruction l = length l.code.bytes - l.at
