use Rattle.s80_fileout.proofs.FoldsBack.{kept_has_no_set, kept_has_versions, kept_is_accepted, kept_is_lawful, kept_makes_the_state}
use Rattle.s80_fileout.proofs.laws.the_list_with_versions_folds_back.Goals as goal

pub returns-clause-accepted : goal.returns-clause-accepted
returns-clause-accepted c = λ count changes some built. kept_is_accepted count some changes built

pub returns-clause-state : goal.returns-clause-state
returns-clause-state c = λ count changes some built. kept_makes_the_state count some changes built

pub returns-clause-set : goal.returns-clause-set
returns-clause-set c = kept_has_no_set

pub returns-clause-versions : goal.returns-clause-versions
returns-clause-versions c = λ count changes name row is. kept_has_versions count changes name.class_name name.side name.selector row is

pub returns-clause-lawful : goal.returns-clause-lawful
returns-clause-lawful c = λ count changes some built lawful. kept_is_lawful c.sources_have_selectors.ensures c.kernel_sources_fit.ensures count some changes built lawful
