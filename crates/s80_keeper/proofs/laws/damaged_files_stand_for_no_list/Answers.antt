use Rattle.s80_keeper.proofs.lemmas.Damages.{no_list}
use Rattle.s80_keeper.proofs.laws.damaged_files_stand_for_no_list.Goals as goal

pub returns : goal.returns
returns c = no_list c.lists_begin_with_a_front.ensures
