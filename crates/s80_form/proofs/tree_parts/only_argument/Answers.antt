use Rattle.std.proofs.Common.{arith, rules}
use Rattle.s80_tree.specs.Tree.{expr_of}
use Rattle.s80_form.proofs.Trees.{one_argument}
use Rattle.s80_form.proofs.tree_parts.only_argument.Goals as goal

pub returns : goal.returns
returns c = one_argument c.args.message.now (expr_of c.at.result.now) c.args.selector.now (search rules) (omega arith) c.at.ensures
