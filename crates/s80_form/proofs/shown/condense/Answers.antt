use Rattle.std.proofs.Common.{arith, refl, rules}
use Rattle.s80_tree.specs.Tree.{exprs_of}
use Rattle.s80_form.proofs.Trees.{exprs_none}
use Rattle.s80_form.proofs.shown.condense.Goals as goal

pub returns : goal.returns
returns c = (c.is_smalltalk.ensures.0 (search rules), exprs_none (exprs_of c.args.arguments.now) (omega arith), refl)
