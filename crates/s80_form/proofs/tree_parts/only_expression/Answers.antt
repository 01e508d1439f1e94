use Rattle.std.proofs.Common.{arith, rules}
use Rattle.s80_form.proofs.Trees.{expression_alone}
use Rattle.s80_form.proofs.tree_parts.only_expression.Goals as goal

pub returns : goal.returns
returns c = expression_alone c.args.tree.now c.at-stmt.result.now (omega arith) (omega arith) c.at-stmt.ensures (search rules)
