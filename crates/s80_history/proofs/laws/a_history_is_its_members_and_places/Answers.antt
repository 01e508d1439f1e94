use Rattle.s80_history.proofs.Continuing.{still_history}
use Rattle.s80_history.proofs.laws.a_history_is_its_members_and_places.Goals as goal

pub returns : goal.returns
returns c = λ old new changes members versions is. still_history old new changes members versions is
