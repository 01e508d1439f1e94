use Rattle.s80_form.proofs.lemmas.OneForm.{form_same}
use Rattle.s80_form.proofs.form.one_form.Goals as goal

pub returns : goal.returns
returns c = form_same
