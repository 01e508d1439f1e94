use Rattle.s80_core.proofs.lemmas.FitAll.{core_fits}
use Rattle.s80_core.proofs.laws.a_fitting_tree_has_a_fitting_core.Goals as goal

pub returns : goal.returns
returns c = core_fits
