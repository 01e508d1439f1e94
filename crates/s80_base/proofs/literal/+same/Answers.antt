use Rattle.std.proofs.Common.{◌+◌, ◌<◌, ◌≤◌, ◌&&◌, length, arith, ap, sym, ◌∙◌}
use Rattle.s80_base.proofs.lemmas.LiteralLists.{lengths_differ, same_begun, same_left, same_next, same_all, vec_length}
use Rattle.s80_base.proofs.literal.+same.Goals as goal

pub same_literals-returns-then-count-len : goal.same_literals-returns-then-count-len
same_literals-returns-then-count-len t c =
    lengths_differ c.args.a.now c.args.b.now
    (λ e. c.if-count-len.true (c.len-count.ensures ∙ vec_length c.args.a.now.items ∙ e ∙ sym (vec_length c.args.b.now.items) ∙ sym c.len.ensures))

pub same_literals-loop-i-init : goal.same_literals-loop-i-init
same_literals-loop-i-init t c = same_begun c.args.a.now c.args.b.now

pub same_literals-returns-then-not-same_literal : goal.same_literals-returns-then-not-same_literal
same_literals-returns-then-not-same_literal t c =
    let low : c.loop-i.i < length c.args.a.now.items.items = omega (arith, c.loop-i-test.true, c.len-count.ensures, vec_length c.args.a.now.items) in
    let high : c.loop-i.i < length c.args.b.now.items.items = omega (arith, c.loop-i-test.true, c.if-count-len.false, c.len.ensures, vec_length c.args.b.now.items) in
    sym (same_next c.args.a.now c.args.b.now c.loop-i.i c.index.result.now c.index-in-loop-i.result.now low high c.index.ensures c.index-in-loop-i.ensures
    ∙ ap (λ b. b && same_left c.args.a.now c.args.b.now (c.loop-i.i + 1)) (sym c.same_literal.ensures ∙ c.if-not-same_literal.true)) ∙ c.loop-i.invariant

pub same_literals-loop-i-preserved : goal.same_literals-loop-i-preserved
same_literals-loop-i-preserved t c =
    let low : c.loop-i.i < length c.args.a.now.items.items = omega (arith, c.loop-i-test.true, c.len-count.ensures, vec_length c.args.a.now.items) in
    let high : c.loop-i.i < length c.args.b.now.items.items = omega (arith, c.loop-i-test.true, c.if-count-len.false, c.len.ensures, vec_length c.args.b.now.items) in
    sym (same_next c.args.a.now c.args.b.now c.loop-i.i c.index.result.now c.index-in-loop-i.result.now low high c.index.ensures c.index-in-loop-i.ensures
    ∙ ap (λ b. b && same_left c.args.a.now c.args.b.now (c.loop-i.i + 1)) (sym c.same_literal.ensures ∙ c.if-not-same_literal.false)) ∙ c.loop-i.invariant

pub same_literals-returns : goal.same_literals-returns
same_literals-returns t c =
    let low : length c.args.a.now.items.items ≤ c.loop-i.i = omega (arith, c.loop-i-test.false, c.len-count.ensures, vec_length c.args.a.now.items) in
    let high : length c.args.b.now.items.items ≤ c.loop-i.i = omega (arith, c.loop-i-test.false, c.if-count-len.false, c.len.ensures, vec_length c.args.b.now.items) in
    same_all c.args.a.now c.args.b.now c.loop-i.i low high ∙ c.loop-i.invariant
