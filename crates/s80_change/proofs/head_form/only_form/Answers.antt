use Rattle.s80_tree.specs.Tree.{doit_of, message_of}
use Rattle.s80_change.proofs.Heads.{none_sent, no_beginning, form_shown}
use Rattle.s80_change.proofs.head_form.only_form.Goals as goal

pub returns-in_err-sending : goal.returns-in_err-sending
returns-in_err-sending c = none_sent (doit_of c.args.tree.now) c.from_residual.result c.from_residual.ensures c.in_err-sending.ensures

pub returns-in_err-category : goal.returns-in_err-category
returns-in_err-category c =
    no_beginning (doit_of c.args.tree.now) c.in_ok-sending.sending.receiver.now c.in_ok-sending.sending.side (message_of c.in_ok-sending.sending.message.now)
    c.from_residual-in_err-category.result c.from_residual-in_err-category.ensures c.in_ok-sending.ensures c.in_err-category.ensures

pub returns : goal.returns
returns c =
    form_shown (doit_of c.args.tree.now) c.in_ok-sending.sending.receiver.now c.in_ok-sending.sending.side (message_of c.in_ok-sending.sending.message.now) _
    c.in_ok-sending.ensures c.in_ok-category.ensures
