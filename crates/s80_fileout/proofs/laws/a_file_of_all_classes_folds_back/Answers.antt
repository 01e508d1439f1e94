use Rattle.s80_fileout.proofs.FoldsBack.{filed_is_accepted, filed_is_lawful, filed_makes_the_state}
use Rattle.s80_fileout.proofs.laws.a_file_of_all_classes_folds_back.Goals as goal

pub returns-clause-accepted : goal.returns-clause-accepted
returns-clause-accepted c = filed_is_accepted

pub returns-clause-state : goal.returns-clause-state
returns-clause-state c = filed_makes_the_state

pub returns-clause-lawful : goal.returns-clause-lawful
returns-clause-lawful c = filed_is_lawful c.sources_have_selectors.ensures c.kernel_sources_fit.ensures
