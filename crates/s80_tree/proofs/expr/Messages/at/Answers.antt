use Rattle.s80_tree.proofs.lemmas.Lists.{message_at}
use Rattle.s80_tree.proofs.expr.Messages.at.Goals as goal

pub returns : goal.returns
returns c = message_at c.args.self.now c.args.i c.index.result.now c.requires c.index.ensures
