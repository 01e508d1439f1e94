use Rattle.s80_keeper.proofs.lemmas.Damages.{one_damage}
use Rattle.s80_keeper.proofs.laws.files_have_one_damage.Goals as goal

pub returns : goal.returns
returns c = one_damage
