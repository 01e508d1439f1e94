use Rattle.s80_tree.proofs.lemmas.Lists.{expr_at}
use Rattle.s80_tree.proofs.expr.Exprs.at.Goals as goal

pub returns : goal.returns
returns c = expr_at c.args.self.now c.args.i c.index.result.now c.requires c.index.ensures
