use Rattle.std.proofs.Common.{◌∙◌}
use Rattle.s80_prims.proofs.ArithmeticLemmas.{exact_of}
use Rattle.s80_prims.proofs.integers.exact.Goals as goal

pub returns : goal.returns
returns c =
    let quotient = c.floor_quotient.ensures in
    c.ranged.ensures
    ∙ exact_of c.args.a c.args.b c.floor_quotient.result c.floor_rest.result c.ranges.a c.ranges.b (record { sfits = c.floor_rest.type_inv }) quotient.least quotient.greatest
    c.if-b-eq0.false c.floor_rest.ensures c.if-floor_rest-ne0.false quotient.is
