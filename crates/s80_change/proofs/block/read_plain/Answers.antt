use Rattle.s80_change.proofs.lemmas.TextOf.{no_change}
use Rattle.s80_change.proofs.block.read_plain.Goals as goal

pub returns : goal.returns
returns c = no_change c.args.text (rw c.in_default.is at c.in_ok-form.ensures) (rw c.if-branch.false at c.in_ok-is_doit.ensures)
