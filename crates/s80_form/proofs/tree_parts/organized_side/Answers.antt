use Rattle.std.proofs.Common.{arith, rules}
use Rattle.s80_tree.specs.Tree.{message_of, messages_of}
use Rattle.s80_form.proofs.Trees.{behind_organization, behind_both}
use Rattle.s80_form.proofs.tree_parts.organized_side.Goals as goal

pub returns-then-count-eq2 : goal.returns-then-count-eq2
returns-then-count-eq2 c = behind_organization (messages_of c.args.messages.now) (message_of c.at.result.now) (message_of c.at-then-count-eq2.result.now) (omega arith) c.at.ensures c.at-then-count-eq2.ensures (c.is_unary.ensures.0 (search rules))

pub returns : goal.returns
returns c =
    behind_both (messages_of c.args.messages.now) (message_of c.at-2.result.now) (message_of c.at-3.result.now) (message_of c.at-4.result.now) (omega arith) c.at-2.ensures c.at-3.ensures c.at-4.ensures
    (c.is_unary-2.ensures.0 (search rules)) (c.is_unary-3.ensures.0 (search rules))
