use Rattle.std.proofs.Common.{length, refl, ap}
use Rattle.s80_tree.specs.Name.{names_of}
use Rattle.s80_tree.specs.Tree.{block_of, body_of, expr_of, exprs_of, messages_of, primary_of}
use Rattle.s80_tree.specs.declared.expr.Block.{out-Block}
use Rattle.s80_tree.specs.declared.expr.Expr.{out-Expr}
use Rattle.s80_scope.proofs.Loops.{body_breaks, body_steps, body_room, body_ends, messages_break, messages_step, messages_room, messages_end, exprs_break, exprs_step, exprs_room, exprs_end}
use Rattle.s80_tree.proofs.lemmas.Opens.{block_open}
use Rattle.s80_scope.proofs.Parts.{targets_open}
use Rattle.s80_scope.proofs.Whole.{target_found, receiver_found, message_found, after_messages, block_found, block_passed}
use Rattle.s80_scope.proofs.names.+walk.Goals as goal

pub in_body-returns-in_err-next : goal.in_body-returns-in_err-next
in_body-returns-in_err-next t c =
    body_breaks c.args.at c.args.first c.loop-statement.next (body_of c.args.body.now) c.deref-statement-items.result.now c.loop-statement.statement-index c.statement-item.result c.in_err-next.field-0.0 c.from_residual.result
    c.loop-statement.invariant.goes_on c.loop-statement-test.true c.statement-item.is c.in_err-next.ensures c.from_residual.ensures

pub in_body-loop-statement-preserved : goal.in_body-loop-statement-preserved
in_body-loop-statement-preserved t c = record {
  room = body_room c.loop-statement.next c.in_ok-next.next c.deref-statement-items.result.now c.loop-statement.statement-index c.statement-item.result c.loop-statement.invariant.room c.loop-statement-test.true c.statement-item.is c.in_ok-next.ensures.0;
  goes_on = body_steps c.args.at c.args.first c.loop-statement.next c.in_ok-next.next (body_of c.args.body.now) c.deref-statement-items.result.now c.loop-statement.statement-index c.statement-item.result
      c.loop-statement.invariant.goes_on c.loop-statement-test.true c.statement-item.is c.in_ok-next.ensures;
}

pub in_body-returns : goal.in_body-returns
in_body-returns t c =
    body_ends c.args.at c.args.first c.loop-statement.next (body_of c.args.body.now) c.deref-statement-items.result.now c.loop-statement.statement-index c.loop-statement.invariant.goes_on c.loop-statement-test.false

pub in_messages-returns-in_err-next : goal.in_messages-returns-in_err-next
in_messages-returns-in_err-next t c =
    messages_break c.args.at c.args.first c.loop-message.next (messages_of c.args.messages.now) c.deref-message-items.result.now c.loop-message.message-index c.message-item.result c.in_err-next.field-0.0 c.from_residual.result
    c.loop-message.invariant.goes_on c.loop-message-test.true c.message-item.is c.in_err-next.ensures c.from_residual.ensures

pub in_messages-loop-message-preserved : goal.in_messages-loop-message-preserved
in_messages-loop-message-preserved t c = record {
  room = messages_room c.loop-message.next c.in_ok-next.next c.deref-message-items.result.now c.loop-message.message-index c.message-item.result c.loop-message.invariant.room c.loop-message-test.true c.message-item.is c.in_ok-next.ensures.0;
  goes_on = messages_step c.args.at c.args.first c.loop-message.next c.in_ok-next.next (messages_of c.args.messages.now) c.deref-message-items.result.now c.loop-message.message-index c.message-item.result
      c.loop-message.invariant.goes_on c.loop-message-test.true c.message-item.is c.in_ok-next.ensures;
}

pub in_messages-returns : goal.in_messages-returns
in_messages-returns t c =
    messages_end c.args.at c.args.first c.loop-message.next (messages_of c.args.messages.now) c.deref-message-items.result.now c.loop-message.message-index c.loop-message.invariant.goes_on c.loop-message-test.false

pub in_exprs-returns-in_err-next : goal.in_exprs-returns-in_err-next
in_exprs-returns-in_err-next t c =
    exprs_break c.args.at c.args.first c.loop-expr.next (exprs_of c.args.exprs.now) c.deref-expr-items.result.now c.loop-expr.expr-index c.expr-item.result c.in_err-next.field-0.0 c.from_residual.result
    c.loop-expr.invariant.goes_on c.loop-expr-test.true c.expr-item.is c.in_err-next.ensures c.from_residual.ensures

pub in_exprs-loop-expr-preserved : goal.in_exprs-loop-expr-preserved
in_exprs-loop-expr-preserved t c = record {
  room = exprs_room c.loop-expr.next c.in_ok-next.next c.deref-expr-items.result.now c.loop-expr.expr-index c.expr-item.result c.loop-expr.invariant.room c.loop-expr-test.true c.expr-item.is c.in_ok-next.ensures.0;
  goes_on = exprs_step c.args.at c.args.first c.loop-expr.next c.in_ok-next.next (exprs_of c.args.exprs.now) c.deref-expr-items.result.now c.loop-expr.expr-index c.expr-item.result
      c.loop-expr.invariant.goes_on c.loop-expr-test.true c.expr-item.is c.in_ok-next.ensures;
}

pub in_exprs-returns : goal.in_exprs-returns
in_exprs-returns t c =
    exprs_end c.args.at c.args.first c.loop-expr.next (exprs_of c.args.exprs.now) c.deref-expr-items.result.now c.loop-expr.expr-index c.loop-expr.invariant.goes_on c.loop-expr-test.false

pub in_expr-returns-in_err-in_names : goal.in_expr-returns-in_err-in_names
in_expr-returns-in_err-in_names t c =
    let e = out-Expr c.args.expr.now in
    target_found c.args.at c.args.first (expr_of c.args.expr.now) c.deref.result.now (primary_of e.receiver) (messages_of e.messages) (messages_of e.cascades) c.in_err-in_names.field-0.0 c.from_residual.result
    (targets_open c.args.expr.now c.deref.result.now c.deref.ensures.value) c.in_err-in_names.ensures c.from_residual.ensures

pub in_expr-returns-in_err-next : goal.in_expr-returns-in_err-next
in_expr-returns-in_err-next t c =
    let e = out-Expr c.args.expr.now in
    receiver_found c.args.at c.args.first (expr_of c.args.expr.now) c.deref.result.now (primary_of e.receiver) (messages_of e.messages) (messages_of e.cascades) c.in_err-next.field-0.0 c.from_residual-in_err-next.result
    (targets_open c.args.expr.now c.deref.result.now c.deref.ensures.value) c.in_ok-in_names.ensures.1 c.in_err-next.ensures c.from_residual-in_err-next.ensures

pub in_expr-returns-in_err-next-2 : goal.in_expr-returns-in_err-next-2
in_expr-returns-in_err-next-2 t c =
    let e = out-Expr c.args.expr.now in
    message_found c.args.at c.args.first c.in_ok-next.next (expr_of c.args.expr.now) c.deref.result.now (primary_of e.receiver) (messages_of e.messages) (messages_of e.cascades) c.in_err-next-2.field-0.0 c.from_residual-in_err-next-2.result
    (targets_open c.args.expr.now c.deref.result.now c.deref.ensures.value) c.in_ok-in_names.ensures.1 c.in_ok-next.ensures c.in_err-next-2.ensures c.from_residual-in_err-next-2.ensures

pub in_expr-returns : goal.in_expr-returns
in_expr-returns t c =
    let e = out-Expr c.args.expr.now in
    after_messages c.args.at c.args.first c.in_ok-next.next c.in_ok-next-2.next (expr_of c.args.expr.now) c.deref.result.now (primary_of e.receiver) (messages_of e.messages) (messages_of e.cascades) c.in_messages-2.result
    (targets_open c.args.expr.now c.deref.result.now c.deref.ensures.value) c.in_ok-in_names.ensures.1 c.in_ok-next.ensures c.in_ok-next-2.ensures c.in_messages-2.ensures

pub in_block-returns-in-Break : goal.in_block-returns-in-Break
in_block-returns-in-Break t c =
    let b = out-Block c.args.block.now in
    block_found c.args.at c.args.first (length c.as_slice-parameters.result.now) (block_of c.args.block.now) (names_of b.parameters) (body_of b.body) c.as_slice-parameters.result.now c.bytes-word.result.now c.number_in.result c.in-Break.found
    (record { name = c.in-Break.found.name; number = c.or.result })
    (block_open c.args.block.now) (ap length c.as_slice-parameters.ensures.value) c.in-Break.ensures c.as_slice-parameters.ensures.value c.bytes-word.ensures c.number_in.ensures refl c.or.ensures

pub in_block-returns-in-Continue : goal.in_block-returns-in-Continue
in_block-returns-in-Continue t c =
    let b = out-Block c.args.block.now in
    block_passed c.args.at c.args.first (length c.as_slice-parameters.result.now) c.in-Continue.next (block_of c.args.block.now) (names_of b.parameters) (body_of b.body) (block_open c.args.block.now)
    (ap length c.as_slice-parameters.ensures.value) c.in-Continue.ensures
