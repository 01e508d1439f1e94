use Rattle.s80_meaning.proofs.ToldAlike.{told_alike}
use Rattle.s80_meaning.proofs.laws.trees_are_told_alike.Goals as goal

pub returns : goal.returns
returns c = told_alike
