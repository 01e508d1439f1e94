use Rattle.s80_base.specs.Literal.{literals_of}
use Rattle.s80_object.proofs.Building.{GoesOn}
use Rattle.s80_base.proofs.lemmas.LiteralLists.{literals_left}
use Rattle.s80_object.proofs.objects.Objects.+built.Given as goal

abbrev pub decreases-add_literal : goal.decreases-add_literal
decreases-add_literal l = goal.size-add_literal l

abbrev pub decreases-add_literals : goal.decreases-add_literals
decreases-add_literals l = goal.size-add_literals l

abbrev pub invariant-add_literals-loop-literal : goal.invariant-add_literals-loop-literal
invariant-add_literals-loop-literal l = GoesOn l.fn.string l.fn.array (literals_of l.elements) (literals_left l.literal-items l.literal-index) l.fn.self l.self l.values.items
