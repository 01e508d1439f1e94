use Rattle.std.proofs.Common.{ap, arith, length, length-append, ◌∙◌, take}
use Rattle.s80_apply.proofs.lemmas.Lists.{blocks_more}
use Rattle.s80_change.specs.Block.{block, blocks}
use Rattle.s80_keeper.proofs.Counting.{sum_of}
use Rattle.s80_keeper.proofs.Renewed.{taken_more}
use Rattle.s80_keeper.proofs.condense.length_of.Goals as goal

pub loop-i-preserved : goal.loop-i-preserved
loop-i-preserved c =
    let so_far = take c.loop-i.i c.args.changes.now in
    let change = c.at.result.now in
    let more = ap (λ l. length (blocks l)) (taken_more c.args.changes.now c.loop-i.i change c.at.ensures) ∙ ap length (blocks_more so_far change) ∙ length-append (blocks so_far) (block change) in
    let size = ap length (c.bytes.ensures ∙ c.in_ok-block.ensures) in
    let sum = sum_of c.checked_add.result c.in_ok-length.length c.loop-i.length (length c.bytes.result.now) c.checked_add.ensures c.in_ok-length.ensures.ok_part in
    omega (arith, more, size, c.loop-i.invariant, sum)
