use Rattle.std.proofs.Common.{◌+◌, ◌∙◌, ap, ap₂, arith, length}
use Rattle.s80_history.specs.Members.{filled, gaps}
use Rattle.s80_history.proofs.Counting.{all_taken, count_more, few_filled, in_gaps}
use Rattle.s80_history.proofs.members.count.Goals as goal

pub overflow_add-count : goal.overflow_add-count
overflow_add-count c =
    let xs = gaps c.args.members.now in
    let more = count_more xs c.loop-i.i (in_gaps c.args.members.now c.loop-i.i c.loop-i-test.true) c.is_some.result c.place_of.result c.is_some.ensures c.place_of.ensures in
    let few = few_filled xs (c.loop-i.i + 1) in
    omega (arith, more, few, c.loop-i.invariant, c.from-count.ensures)

pub loop-i-preserved : goal.loop-i-preserved
loop-i-preserved c =
    ap₂ (λ n k. n + k) c.loop-i.invariant c.from-count.ensures
    ∙ count_more (gaps c.args.members.now) c.loop-i.i (in_gaps c.args.members.now c.loop-i.i c.loop-i-test.true) c.is_some.result c.place_of.result c.is_some.ensures c.place_of.ensures

pub returns : goal.returns
returns c = c.loop-i.invariant ∙ ap (λ xs. length (filled xs)) (all_taken c.args.members.now c.loop-i.i (omega arith))
