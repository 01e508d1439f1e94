use Rattle.std.proofs.Common.{◌-◌, length}
use Rattle.s80_lex.proofs.lemmas.Quotes.{SoFar}
use Rattle.s80_lex.proofs.quoted.quoted_len.Given as goal

abbrev pub invariant-loop-length : goal.invariant-loop-length
invariant-loop-length l = SoFar l.quote l.length l.bytes

abbrev pub decreases-loop-length : goal.decreases-loop-length
decreases-loop-length l = length l.bytes - l.length
