use Rattle.s80_change.proofs.lemmas.TextOf.{condensing_is_doit}
use Rattle.s80_change.proofs.laws.a_condensing_is_a_doit.Goals as goal

pub returns : goal.returns
returns c = condensing_is_doit
