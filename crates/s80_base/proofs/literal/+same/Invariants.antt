use Rattle.std.proofs.Common.{◌≡◌}
use Rattle.s80_base.specs.Literal.{literals_of}
use Rattle.s80_base.proofs.lemmas.LiteralLists.{same_left}
use Rattle.s80_base.specs.SameLiteral.{same_literals}
use Rattle.s80_base.proofs.literal.+same.Given as goal

abbrev pub decreases-same_literal : goal.decreases-same_literal
decreases-same_literal l = goal.size-same_literal l

abbrev pub decreases-same_literals : goal.decreases-same_literals
decreases-same_literals l = goal.size-same_literals l

abbrev pub invariant-same_literals-loop-i : goal.invariant-same_literals-loop-i
invariant-same_literals-loop-i l = same_left l.a l.b l.i ≡ same_literals (literals_of l.a) (literals_of l.b)
