use Rattle.std.proofs.Common.{◌∙◌}
use Rattle.s80_prims.proofs.ArithmeticLemmas.{far_of, left_fits, left_of, right_of}
use Rattle.s80_prims.proofs.integers.shifted.Goals as goal

pub returns-then-by-lt0 : goal.returns-then-by-lt0
returns-then-by-lt0 c =
    c.ranged.ensures
    ∙ right_of c.args.a c.args.by c.from.result c.unsigned_abs.result c.min.result c.ranges.a c.ranges.by c.if-by-lt0.true c.unsigned_abs.ensures.value c.min.ensures c.from.ensures

pub returns-then-by-gt30 : goal.returns-then-by-gt30
returns-then-by-gt30 c = far_of c.args.a c.args.by c.ranges.by c.if-a-eq0.false c.if-by-gt30.true

pub overflow_mul-from : goal.overflow_mul-from
overflow_mul-from c =
    left_fits c.args.a c.args.by c.from-2.result c.pow.result c.ranges.a c.ranges.by c.if-by-lt0.false c.if-by-gt30.false c.from-2.ensures c.pow.ensures

pub returns : goal.returns
returns c =
    c.ranged-2.ensures
    ∙ left_of c.args.a c.args.by c.from-2.result c.pow.result c.ranges.a c.ranges.by c.if-by-lt0.false c.if-by-gt30.false c.from-2.ensures c.pow.ensures
