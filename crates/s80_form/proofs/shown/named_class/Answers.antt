use Rattle.std.proofs.Common.{refl, rules}
use Rattle.s80_form.proofs.shown.named_class.Goals as goal

pub returns : goal.returns
returns c = (c.in_ok-class_name.class_name.now, c.is_smalltalk.ensures.0 (search rules), c.in_ok-class_name.ensures, refl)
