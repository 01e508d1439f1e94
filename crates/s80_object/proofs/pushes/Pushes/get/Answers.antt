use Rattle.std.proofs.Common.{◌∙◌}
use Rattle.s80_object.proofs.lemmas.Kept.{found}
use Rattle.s80_object.proofs.pushes.Pushes.get.Goals as goal

pub returns : goal.returns
returns c = c.copied.ensures ∙ c.get.ensures.value ∙ found c.args.method c.args.entry c.ranges.entry.fits c.key.result c.key.ensures c.self.inside.values.entries c.args.self.now c.self.view_is
