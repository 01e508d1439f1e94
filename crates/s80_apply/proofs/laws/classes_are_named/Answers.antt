use Rattle.s80_apply.proofs.Names.{classes_named}
use Rattle.s80_apply.proofs.laws.classes_are_named.Goals as goal

pub returns : goal.returns
returns c = classes_named
