use Rattle.std.proofs.Common.{refl}
use Rattle.s80_form.proofs.shown.removed_method.Goals as goal

pub returns : goal.returns
returns c = (c.in_ok-selector.selector.now, c.in_ok-selector.ensures, refl)
