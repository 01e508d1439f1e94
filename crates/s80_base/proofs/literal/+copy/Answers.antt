use Rattle.std.proofs.Common.{arith}
use Rattle.s80_base.specs.Literal.{literals_of}
use Rattle.s80_base.proofs.lemmas.LiteralLists.{copied_next, copied_all}
use Rattle.s80_base.proofs.literal.+copy.Goals as goal

pub copy_literals-loop-literal-preserved : goal.copy_literals-loop-literal-preserved
copy_literals-loop-literal-preserved t c =
    copied_next c.deref-literal-items.result.now c.loop-literal.literal-index c.literal-item.result c.in_ok-copy_literal.field-0 (literals_of c.args.literals.now)
    (literals_of c.loop-literal.copy) (literals_of c.push.new.self) c.loop-literal-test.true c.literal-item.is c.loop-literal.invariant c.in_ok-copy_literal.ensures c.in_ok-push.ensures.ok

pub copy_literals-returns : goal.copy_literals-returns
copy_literals-returns t c =
    copied_all c.deref-literal-items.result.now c.loop-literal.literal-index (literals_of c.args.literals.now) (literals_of c.loop-literal.copy)
    (omega (arith, c.loop-literal-test.false)) c.loop-literal.invariant
