use Rattle.s80_form.proofs.lemmas.FormTexts.{text_same}
use Rattle.s80_form.proofs.form.one_form_text.Goals as goal

pub returns : goal.returns
returns c = text_same
