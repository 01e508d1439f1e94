use Rattle.std.proofs.Common.{refl}
use Rattle.s80_form.proofs.shown.class_vars.Goals as goal

pub returns : goal.returns
returns c = (c.in_ok-names.names.now, c.in_ok-names.ensures, refl)
