use Rattle.std.proofs.Common.{arith, ◌∙◌}
use Rattle.s80_line.proofs.Numbers.{digit_step}
use Rattle.s80_line.proofs.number.digits_value.Goals as goal

pub loop-byte-preserved : goal.loop-byte-preserved
loop-byte-preserved c =
    digit_step c.args.word.now c.loop-byte.byte-index _ _ _ _ (omega arith) c.loop-byte.invariant c.saturating_mul.ensures (c.from.ensures ∙ c.saturating_sub.ensures)
    c.saturating_add-number.ensures
