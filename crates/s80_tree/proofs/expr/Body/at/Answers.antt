use Rattle.s80_tree.proofs.lemmas.Lists.{stmt_at}
use Rattle.s80_tree.proofs.expr.Body.at.Goals as goal

pub returns : goal.returns
returns c = stmt_at c.args.self.now c.args.i c.index.result.now c.requires c.index.ensures
