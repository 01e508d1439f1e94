use Rattle.s80_fileout.proofs.FoldsBack.{canon_has_no_set, canon_is_accepted, canon_is_lawful, canon_makes_the_state}
use Rattle.s80_fileout.proofs.laws.the_shortest_list_folds_back.Goals as goal

pub returns-clause-accepted : goal.returns-clause-accepted
returns-clause-accepted c = canon_is_accepted

pub returns-clause-state : goal.returns-clause-state
returns-clause-state c = canon_makes_the_state

pub returns-clause-set : goal.returns-clause-set
returns-clause-set c = canon_has_no_set

pub returns-clause-lawful : goal.returns-clause-lawful
returns-clause-lawful c = canon_is_lawful c.sources_have_selectors.ensures c.kernel_sources_fit.ensures
