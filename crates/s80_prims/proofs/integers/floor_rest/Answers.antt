use Rattle.s80_prims.proofs.ArithmeticLemmas.{rest_of}
use Rattle.s80_prims.proofs.integers.floor_rest.Goals as goal

pub returns : goal.returns
returns c =
    let quotient = c.floor_quotient.ensures in
    rest_of c.args.a c.args.b c.from.result c.from-2.result c.floor_quotient.result c.ranges.a c.ranges.b c.from.ensures c.from-2.ensures quotient.is quotient.least quotient.greatest
