use Rattle.std.proofs.Common.{arith}
use Rattle.s80_form.proofs.Trees.{messages_sent, not_sent}
use Rattle.s80_form.proofs.tree_parts.only_messages.Goals as goal

pub returns-in-Name : goal.returns-in-Name
returns-in-Name c = messages_sent c.args.expr.now c.in-Name.name (omega arith) (omega arith) c.in-Name.is

pub returns-in_default : goal.returns-in_default
returns-in_default c = λ y. not_sent c.args.expr.now y c.in_default.not-Name
