use Rattle.std.proofs.Common.{ap, ◌∙◌}
use Rattle.s80_prims.specs.Arithmetic.{ranged}
use Rattle.s80_prims.proofs.ArithmeticLemmas.{product_of}
use Rattle.s80_prims.proofs.integers.arithmetic.Goals as goal

pub returns-in-9 : goal.returns-in-9
returns-in-9 c =
    rw c.in-9.is
    (c.ranged-in-9.ensures ∙ ap ranged (product_of c.args.a c.args.b c.from-in-9.result c.from-in-9-2.result c.ranges.a c.ranges.b c.from-in-9.ensures c.from-in-9-2.ensures))
