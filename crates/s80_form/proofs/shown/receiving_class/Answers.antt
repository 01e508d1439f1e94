use Rattle.std.proofs.Common.{arith, refl}
use Rattle.s80_tree.specs.Tree.{exprs_of}
use Rattle.s80_form.proofs.Trees.{exprs_none}
use Rattle.s80_form.proofs.shown.receiving_class.Goals as goal

pub returns : goal.returns
returns c = (exprs_none (exprs_of c.args.arguments.now) (omega arith), refl)
