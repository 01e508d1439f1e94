use Rattle.std.proofs.Common.{◌≡◌, ◌+◌, ◌≤◌, OnOk, IfOk, arith, length, subst, ◌∙◌}
use Rattle.s80_tree.specs.declared.expr.Body.{out-Body}
use Rattle.s80_tree.specs.Tree.{body_of, exprs_of, messages_of}
use Rattle.s80_scope.specs.FitLiterals.{messages_entries}
use Rattle.s80_scope.specs.Inlined.{is_inlined}
use Rattle.s80_scope.specs.Scope.{declared_in}
use Rattle.s80_scope.specs.Walk.{arguments_counts, arms_counts, cut_off, messages_counts}
use Rattle.s80_scope.proofs.lemmas.Counted.{rest_counts}
use Rattle.s80_scope.proofs.Steps.{argument_counts, exprs_step, arms_left, arms_step, arm_whole, block_entries, looped_block, real_block, statement_step, body_step, body_whole, more_messages, arms_after, last_message, next_message, last_names, next_names, sent_names, vec_length, expr_names}
use Rattle.s80_scope.proofs.fit.walk.+walk.Goals.{messages-then-after-eq0+in_ok-next, messages-else-after-eq0+in_ok-next-2}
use Rattle.s80_scope.proofs.fit.walk.+walk.Goals as goal

pub arguments-loop-argument-preserved : goal.arguments-loop-argument-preserved
arguments-loop-argument-preserved t c =
    let h = c.loop-argument.invariant in
    let xs = c.deref-argument-items.result.now in
    let i = c.loop-argument.argument-index in
    let x = c.argument-item.result in
    record {
      below = omega (arith, c.saturating_add-below.ensures, h.below);
      counts = argument_counts c.args.values i c.loop-argument.below xs x (arguments_counts c.args.values (exprs_of c.args.arguments.now)) c.loop-argument.counts c.in_ok-next.next c.above.result c.then-counts.result
          c.loop-argument-test.true c.argument-item.is h.counts h.below c.in_ok-next.ensures.counts c.above.ensures c.then-counts.ensures;
      entries = exprs_step (declared_in c.args.scope.now) c.args.entries.now c.loop-argument.entries c.expr.new.entries (exprs_of c.args.arguments.now) xs i x
          c.loop-argument-test.true c.argument-item.is h.entries c.in_ok-next.ensures.entries;
    }

pub arm-returns-clause-counts : goal.arm-returns-clause-counts
arm-returns-clause-counts t c =
    subst (λ x. IfOk c.block.result (λ counts. counts ≡ cut_off x))
    (arm_whole c.args.position c.arm_leaves.result c.args.argument.now c.in-Block.inner c.arm_leaves.ensures c.in-Block.is c.requires)
    c.block.ensures.counts

pub arms-loop-argument-preserved : goal.arms-loop-argument-preserved
arms-loop-argument-preserved t c =
    let h = c.loop-argument.invariant in
    let xs = c.deref-argument-items.result.now in
    let i = c.loop-argument.argument-index in
    let x = c.argument-item.result in
    record {
      arms = arms_left xs i x c.loop-argument-test.true c.argument-item.is h.arms;
      counts = arms_step c.args.position i xs x (arms_counts c.args.position (exprs_of c.args.arguments.now)) c.loop-argument.counts c.in_ok-next.next c.then-counts.result
          c.loop-argument-test.true c.argument-item.is h.counts c.in_ok-next.ensures.counts c.then-counts.ensures;
      entries = exprs_step (declared_in c.args.scope.now) c.args.entries.now c.loop-argument.entries c.arm.new.entries (exprs_of c.args.arguments.now) xs i x
          c.loop-argument-test.true c.argument-item.is h.entries c.in_ok-next.ensures.entries;
    }

pub block-returns-clause-entries : goal.block-returns-clause-entries
block-returns-clause-entries t c =
    subst (λ keys. OnOk c.body.result (c.body.new.entries ≡ keys))
    (block_entries (declared_in c.args.scope.now) _ _ c.args.entries.now c.add_count.new.self c.args.block.now c.count.result c.deref.result.now
    c.in_ok-add_count.ensures c.count.ensures c.deref.ensures.value c.within-inner.ensures c.in_ok-names.ensures)
    c.body.ensures.entries

pub body-loop-one-preserved : goal.body-loop-one-preserved
body-loop-one-preserved t c =
    let h = c.loop-one.invariant in
    let xs = c.deref-one-items.result.now in
    let i = c.loop-one.one-index in
    let x = c.one-item.result in
    record {
      after = omega (arith, h.after, c.loop-one-test.true);
      counts = statement_step c.args.leaves c.leaves_before-here.result c.loop-one.after i xs x (rest_counts c.args.leaves (body_of c.args.statements.now)) c.loop-one.counts c.in_ok-next.next c.then-counts.result
          c.loop-one-test.true c.one-item.is h.after c.leaves_before-here.ensures h.counts c.in_ok-next.ensures.counts c.then-counts.ensures;
      entries = body_step (declared_in c.args.scope.now) c.args.entries.now c.loop-one.entries c.statement.new.entries (body_of c.args.statements.now) xs i x
          c.loop-one-test.true c.one-item.is h.entries c.in_ok-next.ensures.entries;
    }

pub body-returns-clause-counts : goal.body-returns-clause-counts
body-returns-clause-counts t c =
    body_whole c.args.leaves c.args.statements.now c.deref-one-items.result.now c.loop-one.one-index c.loop-one.counts c.loop-one.invariant.counts c.loop-one-test.false c.deref-one-items.ensures.value
    (λ none. omega (arith, c.len-after.ensures, vec_length (out-Body c.args.statements.now).items, c.if-after-eq0.false, none))

pub expr-returns-clause-entries : goal.expr-returns-clause-entries
expr-returns-clause-entries t c =
    expr_names (declared_in c.args.scope.now) c.args.expr.now c.args.entries.now c.receiver.new.entries c.messages.new.entries c.messages-2.new.entries c.targets.new.entries
    c.ending_with_arms-ending.result c.is_super-to_super.result c.cascade_to_super-still_super.result c.deref.result.now
    c.ending_with_arms-ending.ensures.is c.is_super-to_super.ensures c.cascade_to_super-still_super.ensures c.deref.ensures.value
    c.in_ok-receiver.ensures.entries c.in_ok-chain.ensures.entries c.in_ok-cascade.ensures.entries c.in_ok-targets.ensures

pub messages-loop-message-preserved : goal.messages-loop-message-preserved
messages-loop-message-preserved t c =
    let h = c.loop-message.invariant in
    let xs = c.deref-message-items.result.now in
    let i = c.loop-message.message-index in
    let x = c.message-item.result in
    let within = c.loop-message-test.true in
    let all = messages_of c.args.messages.now in
    let chain = c.args.chain in
    let declared = declared_in c.args.scope.now in
    let names = messages_entries declared chain.first_to_super chain.others_to_super (is_inlined chain.last) all in
    record {
      after = omega (arith, h.after, within);
      arms = arms_after i xs x within c.message-item.is (is_inlined chain.last) h.arms;
      counts = elim c.if-after-eq0.branch [
        | messages-then-after-eq0+in_ok-next w ↦
            last_message i xs x within c.message-item.is c.args.position chain.before chain.last (messages_counts c.args.position chain.before chain.last all) c.loop-message.counts c.if-after-eq0.next c.then-counts.result h.counts c.then-counts.ensures
            (let past : length xs ≤ i + 1 = omega (arith, h.after, within, w.if-after-eq0.true) in past) (w.next-is ∙ w.in_ok-next.ensures.counts)
        | messages-else-after-eq0+in_ok-next-2 w ↦
            next_message i xs x within c.message-item.is c.args.position chain.before chain.last (messages_counts c.args.position chain.before chain.last all) c.loop-message.counts c.if-after-eq0.next c.then-counts.result h.counts c.then-counts.ensures
            (more_messages xs (i + 1) (omega (arith, h.after, within, w.if-after-eq0.false))) (w.next-is ∙ w.in_ok-next-2.ensures.counts)
      ];
      entries = elim c.if-after-eq0.branch [
        | messages-then-after-eq0+in_ok-next w ↦
            last_names i xs x within c.message-item.is declared c.loop-message.to_super chain.others_to_super (is_inlined chain.last) c.args.entries.now c.loop-message.entries c.if-after-eq0.entries names h.entries
            (let past : length xs ≤ i + 1 = omega (arith, h.after, within, w.if-after-eq0.true) in past) (w.entries-is ∙ w.in_ok-next.ensures.entries)
        | messages-else-after-eq0+in_ok-next-2 w ↦
            next_names i xs x within c.message-item.is declared c.loop-message.to_super chain.others_to_super (is_inlined chain.last) c.args.entries.now c.loop-message.entries c.if-after-eq0.entries names h.entries
            (more_messages xs (i + 1) (omega (arith, h.after, within, w.if-after-eq0.false))) (w.entries-is ∙ w.in_ok-next-2.ensures.entries)
      ];
    }

pub receiver-returns-then-looped-clause-counts : goal.receiver-returns-then-looped-clause-counts
receiver-returns-then-looped-clause-counts t c =
    looped_block c.args.looped c.args.primary.now c.in-Block.inner c.count-parameters.result c.in_ok-counts-in-Block.counts c.declaring.result c.in-Block.is c.if-looped.true c.count-parameters.ensures c.in_ok-counts-in-Block.ensures.counts c.declaring.ensures

pub receiver-returns-else-looped-clause-counts : goal.receiver-returns-else-looped-clause-counts
receiver-returns-else-looped-clause-counts t c =
    real_block c.args.looped c.args.primary.now c.in-Block.inner c.count-parameters.result c.in_ok-counts-in-Block.counts c.in_block.result c.in-Block.is c.if-looped.false c.count-parameters.ensures c.in_ok-counts-in-Block.ensures.counts c.in_block.ensures

pub sent-returns-clause-entries : goal.sent-returns-clause-entries
sent-returns-clause-entries t c =
    sent_names (declared_in c.args.scope.now) c.args.to_super c.args.entries.now c.arguments.new.entries c.add_selector.new.self c.args.message.now c.bytes.result.now
    c.in_ok-counts.ensures.entries c.in_ok-add_selector.ensures c.bytes.ensures
