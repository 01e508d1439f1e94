use Rattle.std.proofs.Common.{◌-◌, length}
use Rattle.s80_lex.proofs.lemmas.Parts.{Up}
use Rattle.s80_lex.proofs.list.tokens.Given as goal

abbrev pub invariant-loop-place : goal.invariant-loop-place
invariant-loop-place l = Up l.tokens.items l.place l.bytes

abbrev pub decreases-loop-place : goal.decreases-loop-place
decreases-loop-place l = length l.bytes - l.place
