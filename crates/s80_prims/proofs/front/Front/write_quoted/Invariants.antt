-- A quote was written, and the bytes so far with each quote doubled.
use Rattle.std.proofs.Common.{take}
use Rattle.s80_lex.specs.Spelling.{unended}
use Rattle.s80_prims.specs.Front.{Writes}
use Rattle.s80_prims.proofs.front.Front.write_quoted.Given as goal

abbrev pub invariant-loop-byte : goal.invariant-loop-byte
invariant-loop-byte l = Writes l.fn.self l.self (unended 39 (take l.byte-index l.bytes))
