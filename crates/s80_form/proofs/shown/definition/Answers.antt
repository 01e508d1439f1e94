use Rattle.std.proofs.Common.{refl}
use Rattle.s80_form.specs.Shown.{texts_of}
use Rattle.s80_form.proofs.shown.definition.Goals as goal

pub returns : goal.returns
returns c = (texts_of c.in_ok-five_arguments.field-0, c.in_ok-five_arguments.ensures, refl)
