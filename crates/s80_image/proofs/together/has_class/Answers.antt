use Rattle.s80_image.proofs.Linked.{told_by_place}
use Rattle.s80_image.proofs.together.has_class.Goals as goal

pub returns : goal.returns
returns c = told_by_place c.args.classes.now c.requires c.args.name.now c.place_of.result c.is_some.result c.is_some.ensures c.place_of.ensures
