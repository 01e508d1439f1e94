use Rattle.s80_tree.specs.Tree.{doit_of, messages_of}
use Rattle.s80_form.specs.TreeParts.{IsSending, sending_of, to_side}
use Rattle.s80_form.proofs.lemmas.Sendings.{nothing, no_route}
use Rattle.s80_form.proofs.tree_parts.only_sending.Goals as goal

pub returns-in_err-receiver : goal.returns-in_err-receiver
returns-in_err-receiver c =
    nothing sending_of (IsSending (doit_of c.args.tree.now)) c.from_residual.result c.from_residual.ensures
    (λ p h. c.in_err-receiver.ensures (p.0, to_side (p.1, p.2)) h)

pub returns-in_err-side : goal.returns-in_err-side
returns-in_err-side c =
    nothing sending_of (IsSending (doit_of c.args.tree.now)) c.from_residual-in_err-side.result c.from_residual-in_err-side.ensures
    (no_route to_side (doit_of c.args.tree.now) (c.in_ok-receiver.receiver.now, messages_of c.in_ok-receiver.messages.now) c.in_ok-receiver.ensures c.in_err-side.ensures)
