use Rattle.s80_base.proofs.lemmas.Lists.{literal_at}
use Rattle.s80_base.proofs.literal.Literals.at.Goals as goal

pub returns : goal.returns
returns c = literal_at c.args.self.now c.args.i c.index.result.now c.requires c.index.ensures
