use Rattle.std.proofs.Common.{refl}
use Rattle.s80_form.proofs.shown.comment.Goals as goal

pub returns : goal.returns
returns c = (c.in_ok-text.text.now, c.in_ok-text.ensures, refl)
