use Rattle.std.proofs.Common.{◌∙◌, ap, sym}
use Rattle.s80_prims.proofs.KernelNumbers.{class_again, place_class}
use Rattle.s80_prims.proofs.kernel.Kernel.class_value.Goals as goal

pub returns-in-Some : goal.returns-in-Some
returns-in-Some c = λ t are. ap place_class (sym c.in-Some.is ∙ c.class_of.ensures t are) ∙ class_again t c.args.objects.now c.args.v

pub returns-in-None : goal.returns-in-None
returns-in-None c = λ t are. ap place_class (sym c.in-None.is ∙ c.class_of.ensures t are) ∙ class_again t c.args.objects.now c.args.v
