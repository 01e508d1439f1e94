use Rattle.s80_tree.specs.Tree.{doit_of, expr_of, messages_of}
use Rattle.s80_form.specs.TreeParts.{IsSentToName}
use Rattle.s80_form.proofs.lemmas.Sendings.{nothing, no_expression, no_messages_sent}
use Rattle.s80_form.proofs.tree_parts.sent_to_name.Goals as goal

pub returns-in_err-only_expression : goal.returns-in_err-only_expression
returns-in_err-only_expression c =
    nothing (λ p. (p.0.now, messages_of p.1.now)) (IsSentToName (doit_of c.args.tree.now)) c.from_residual.result c.from_residual.ensures (no_expression (doit_of c.args.tree.now) c.in_err-only_expression.ensures)

pub returns-in_err-receiver : goal.returns-in_err-receiver
returns-in_err-receiver c =
    nothing (λ p. (p.0.now, messages_of p.1.now)) (IsSentToName (doit_of c.args.tree.now)) c.from_residual-in_err-receiver.result c.from_residual-in_err-receiver.ensures
    (no_messages_sent (doit_of c.args.tree.now) (expr_of c.in_ok-only_expression.field-0.now) c.in_ok-only_expression.ensures c.in_err-receiver.ensures)
