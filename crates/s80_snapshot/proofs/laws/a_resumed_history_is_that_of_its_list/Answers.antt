use Rattle.s80_snapshot.proofs.Remembered.{history_of_list}
use Rattle.s80_snapshot.proofs.laws.a_resumed_history_is_that_of_its_list.Goals as goal

pub returns : goal.returns
returns c = history_of_list
