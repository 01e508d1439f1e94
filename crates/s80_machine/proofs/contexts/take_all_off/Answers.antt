use Rattle.std.proofs.Common.{ap, arith}
use Rattle.std.proofs.lemmas.List.Sums.{sum_by_more_le}
use Rattle.s80_machine.specs.Counted.{one_of}
use Rattle.s80_machine.proofs.contexts.take_all_off.Goals as goal

pub take_off-requires : goal.take_off-requires
take_off-requires c = λ b.
    omega (
      arith,
      c.loop-context.invariant b,
      c.requires b,
      ap (one_of b) c.context-item.is,
      sum_by_more_le (one_of b) c.args.ended.now c.loop-context.context-index c.context-item.result c.loop-context-test.true,
    )
