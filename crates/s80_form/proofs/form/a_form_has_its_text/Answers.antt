use Rattle.s80_form.proofs.lemmas.FormTexts.{has_text}
use Rattle.s80_form.proofs.form.a_form_has_its_text.Goals as goal

pub returns : goal.returns
returns c = has_text
