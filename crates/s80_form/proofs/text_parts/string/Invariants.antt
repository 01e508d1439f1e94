-- What was read, with each quote doubled, and what is left are the bytes.
use Rattle.std.proofs.Common.{◌≡◌, ◌++◌, length}
use Rattle.std.specs.List.{flat_map}
use Rattle.s80_lex.specs.Spelling.{doubled}
use Rattle.s80_form.proofs.text_parts.string.Given as goal

abbrev pub invariant-loop-rest : goal.invariant-loop-rest
invariant-loop-rest l = l.bytes ≡ flat_map (doubled 39) l.text ++ l.rest

abbrev pub decreases-loop-rest : goal.decreases-loop-rest
decreases-loop-rest l = length l.rest
