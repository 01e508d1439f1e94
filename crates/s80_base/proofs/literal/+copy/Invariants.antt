use Rattle.std.proofs.Common.{◌≡◌}
use Rattle.s80_base.specs.Literal.{literals_of, literals_append}
use Rattle.s80_base.proofs.lemmas.LiteralLists.{literals_left}
use Rattle.s80_base.proofs.literal.+copy.Given as goal

abbrev pub invariant-copy_literals-loop-literal : goal.invariant-copy_literals-loop-literal
invariant-copy_literals-loop-literal l = literals_append (literals_of l.copy) (literals_left l.literal-items l.literal-index) ≡ literals_of l.literals
