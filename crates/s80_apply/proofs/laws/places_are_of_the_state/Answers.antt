use Rattle.s80_apply.proofs.Tied.{list_tied}
use Rattle.s80_apply.proofs.laws.places_are_of_the_state.Goals as goal

pub returns : goal.returns
returns c = list_tied
