use Rattle.s80_apply.proofs.Lawful.{form_lawful}
use Rattle.s80_apply.proofs.laws.accepted_forms_are_lawful.Goals as goal

pub returns : goal.returns
returns c = form_lawful c.sources_have_selectors.ensures c.kernel_sources_fit.ensures
