use Rattle.std.proofs.Common.{arith}
use Rattle.s80_lex.proofs.Values.{value_step}
use Rattle.s80_lex.proofs.number.digits_value.Goals as goal

pub loop-byte-preserved : goal.loop-byte-preserved
loop-byte-preserved c =
    value_step c.args.radix c.loop-byte.byte-index _ _ _ _ c.args.bytes.now c.requires (omega arith) c.loop-byte.invariant c.saturating_mul.ensures c.digit_value.ensures c.saturating_add-value.ensures
