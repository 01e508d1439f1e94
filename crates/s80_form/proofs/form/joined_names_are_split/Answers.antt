use Rattle.s80_form.proofs.Splits.{joined_split}
use Rattle.s80_form.proofs.form.joined_names_are_split.Goals as goal

pub returns : goal.returns
returns c = joined_split
