use Rattle.std.proofs.Common.{sym, arith}
use Rattle.s80_machine.proofs.CountedBlocks.{has_place, one_here}
use Rattle.s80_machine.proofs.contexts.take_off.Goals as goal

pub bounds-counts-block : goal.bounds-counts-block
bounds-counts-block c =
    has_place c.args.counts.now c.in-Some.block (omega (arith, one_here c.in-Some.block c.args.ended.now (sym c.in-Some.ensures), c.requires c.in-Some.block))
