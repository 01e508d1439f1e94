use Rattle.s80_keeper.proofs.OneList.{one_standing}
use Rattle.s80_keeper.proofs.laws.files_stand_for_one_list.Goals as goal

pub returns : goal.returns
returns c = one_standing
