use Rattle.std.proofs.Common.{arith, rules}
use Rattle.s80_tree.specs.Tree.{message_of, messages_of}
use Rattle.s80_form.proofs.Trees.{messages_one, behind_class}
use Rattle.s80_form.proofs.tree_parts.side_and_message.Goals as goal

pub returns-then-count-eq1 : goal.returns-then-count-eq1
returns-then-count-eq1 c = messages_one (messages_of c.args.messages.now) (message_of c.at.result.now) (omega arith) c.at.ensures

pub returns : goal.returns
returns c = behind_class (messages_of c.args.messages.now) (message_of c.at-2.result.now) (message_of c.at-3.result.now) (omega arith) c.at-2.ensures c.at-3.ensures (c.is_unary.ensures.0 (search rules))
