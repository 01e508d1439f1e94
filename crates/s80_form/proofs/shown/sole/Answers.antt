use Rattle.std.proofs.Common.{arith}
use Rattle.s80_tree.specs.Tree.{exprs_of, expr_of}
use Rattle.s80_form.proofs.Trees.{exprs_one}
use Rattle.s80_form.proofs.shown.sole.Goals as goal

pub returns : goal.returns
returns c = exprs_one (exprs_of c.args.arguments.now) (expr_of c.at.result.now) (omega arith) c.at.ensures
