use Rattle.std.proofs.Common.{rules}
use Rattle.s80_form.proofs.Trees.{is_unary}
use Rattle.s80_form.proofs.tree_parts.is_unary.Goals as goal

pub returns-then-eq : goal.returns-then-eq
returns-then-eq c = is_unary c.args.message.now c.args.selector.now c.count.result (search rules) c.count.ensures
