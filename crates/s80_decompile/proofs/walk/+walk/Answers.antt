use Rattle.std.proofs.Common.{ap, refl, sym, ◌∙◌, ℕ, List, ◌∷◌, codes}
use Rattle.s80_lex.specs.declared.token.TokenKind.TheVariants as kind
use Rattle.s80_tree.specs.Tree.{MessageTree, body_of, expr_of, exprs_of, message_of, messages_of}
use Rattle.s80_tree.specs.declared.expr.Message.{out-Message}
use Rattle.s80_tree.proofs.lemmas.Opens.{message_open}
use Rattle.s80_decompile.specs.Printed.{printed}
use Rattle.s80_decompile.specs.TreeTokens.{body_tokens, cascade_tokens, expr_tokens, message_tokens, messages_tokens, parts_tokens, token}
use Rattle.s80_decompile.proofs.Printing.{exprs_all, exprs_in, messages_all, messages_in, part_end, part_step, prints_as, prints_both, no_arguments, some_arguments, statement_step, statements_end, still_end, still_step, stmts_all}
use Rattle.s80_decompile.proofs.walk.+walk.Goals as goal

pub arguments-loop-argument-init : goal.arguments-loop-argument-init
arguments-loop-argument-init t c = λ more. ap (λ es. printed c.args.printer.now (parts_tokens es c.args.selector.now more)) (exprs_all c.args.arguments.now c.deref-argument-items.result.now c.deref-argument-items.ensures.value)

pub arguments-loop-argument-preserved : goal.arguments-loop-argument-preserved
arguments-loop-argument-preserved t c =
    part_step (λ xs s. parts_tokens (exprs_in xs) s) c.args.printer.now c.loop-argument.printer (parts_tokens (exprs_of c.args.arguments.now) c.args.selector.now) c.deref-argument-items.result.now c.loop-argument.argument-index c.loop-argument.rest.now
    c.part.new.printer c.expr.new.printer (expr_tokens (expr_of c.argument-item.result)) c.argument-item.result c.behind-rest.result.now (λ rest more. refl)
    c.loop-argument-test.true c.argument-item.is c.loop-argument.invariant c.in_ok-part.ensures c.in_ok-expr.ensures c.behind-rest.ensures

pub arguments-returns : goal.arguments-returns
arguments-returns t c =
    part_end (λ xs s. parts_tokens (exprs_in xs) s) c.args.printer.now c.loop-argument.printer (parts_tokens (exprs_of c.args.arguments.now) c.args.selector.now) c.deref-argument-items.result.now c.loop-argument.argument-index c.loop-argument.rest.now
    (λ more. refl) c.loop-argument-test.false c.loop-argument.invariant

pub body-loop-one-init : goal.body-loop-one-init
body-loop-one-init t c = λ more. ap (λ ss. printed c.args.printer.now (body_tokens ss more)) (stmts_all c.args.body.now c.deref-one-items.result.now c.deref-one-items.ensures.value)

pub body-loop-one-preserved : goal.body-loop-one-preserved
body-loop-one-preserved t c =
    statement_step c.args.printer.now c.loop-one.printer (body_tokens (body_of c.args.body.now)) c.deref-one-items.result.now c.loop-one.one-index c.loop-one.follows c.period.new.printer c.statement.new.printer c.one-item.result
    c.loop-one-test.true c.one-item.is c.loop-one.invariant c.in_ok-period.ensures c.in_ok-statement.ensures

pub body-returns : goal.body-returns
body-returns t c = statements_end c.args.printer.now c.loop-one.printer (body_tokens (body_of c.args.body.now)) c.deref-one-items.result.now c.loop-one.one-index c.loop-one.follows c.loop-one-test.false c.loop-one.invariant

pub cascade-loop-one-init : goal.cascade-loop-one-init
cascade-loop-one-init t c = λ more. ap (λ ms. printed c.args.printer.now (cascade_tokens ms more)) (messages_all c.args.messages.now c.deref-one-items.result.now c.deref-one-items.ensures.value)

pub cascade-loop-one-preserved : goal.cascade-loop-one-preserved
cascade-loop-one-preserved t c =
    still_step (λ xs. cascade_tokens (messages_in xs)) c.args.printer.now c.loop-one.printer (cascade_tokens (messages_of c.args.messages.now)) c.deref-one-items.result.now c.loop-one.one-index c.message.new.printer
    (λ more. token kind.Semicolon (codes ";") ∷ message_tokens (message_of c.one-item.result).1 (message_of c.one-item.result).0 more) c.one-item.result (λ rest more. refl) c.loop-one-test.true c.one-item.is c.loop-one.invariant
    (prints_both c.loop-one.printer c.token.new.self c.message.new.printer (λ more. token kind.Semicolon (codes ";") ∷ more) (message_tokens (message_of c.one-item.result).1 (message_of c.one-item.result).0) c.in_ok-token.ensures c.in_ok-message.ensures)

pub cascade-returns : goal.cascade-returns
cascade-returns t c =
    still_end (λ xs. cascade_tokens (messages_in xs)) c.args.printer.now c.loop-one.printer (cascade_tokens (messages_of c.args.messages.now)) c.deref-one-items.result.now c.loop-one.one-index (λ more. refl) c.loop-one-test.false c.loop-one.invariant

pub message-returns-then-count-eq0 : goal.message-returns-then-count-eq0
message-returns-then-count-eq0 t c =
    let m = c.args.one.now in
    prints_as c.token.result c.args.printer.now c.token.new.self (λ more. token kind.Name c.bytes-selector.result.now ∷ more) (message_tokens (message_of m).1 (message_of m).0)
    (λ more.
    ap (λ (b : List ℕ). token kind.Name b ∷ more) c.bytes-selector.ensures ∙ no_arguments (exprs_of (out-Message m).arguments) (out-Message m).selector more (sym c.count.ensures ∙ c.if-count-eq0.true)
    ∙ ap (λ (x : MessageTree). message_tokens x.1 x.0 more) (sym (message_open m)))
    c.token.ensures

pub message-returns : goal.message-returns
message-returns t c =
    let m = c.args.one.now in
    let es = exprs_of (out-Message m).arguments in
    prints_as c.arguments.result c.args.printer.now c.arguments.new.printer (parts_tokens es c.bytes-selector.result.now) (message_tokens (message_of m).1 (message_of m).0)
    (λ more.
    ap (λ (b : List ℕ). parts_tokens es b more) c.bytes-selector.ensures ∙ some_arguments es (out-Message m).selector more (λ e. c.if-count-eq0.false (c.count.ensures ∙ e))
    ∙ ap (λ (x : MessageTree). message_tokens x.1 x.0 more) (sym (message_open m)))
    c.arguments.ensures

pub messages-loop-one-init : goal.messages-loop-one-init
messages-loop-one-init t c = λ more. ap (λ ms. printed c.args.printer.now (messages_tokens ms more)) (messages_all c.args.messages.now c.deref-one-items.result.now c.deref-one-items.ensures.value)

pub messages-loop-one-preserved : goal.messages-loop-one-preserved
messages-loop-one-preserved t c =
    still_step (λ xs. messages_tokens (messages_in xs)) c.args.printer.now c.loop-one.printer (messages_tokens (messages_of c.args.messages.now)) c.deref-one-items.result.now c.loop-one.one-index c.message.new.printer
    (message_tokens (message_of c.one-item.result).1 (message_of c.one-item.result).0) c.one-item.result (λ rest more. refl) c.loop-one-test.true c.one-item.is c.loop-one.invariant c.in_ok-message.ensures

pub messages-returns : goal.messages-returns
messages-returns t c =
    still_end (λ xs. messages_tokens (messages_in xs)) c.args.printer.now c.loop-one.printer (messages_tokens (messages_of c.args.messages.now)) c.deref-one-items.result.now c.loop-one.one-index (λ more. refl) c.loop-one-test.false c.loop-one.invariant
