use Rattle.s80_apply.proofs.LastingKernel.{stands_last}
use Rattle.s80_apply.proofs.lasting.kernel_classes_last.Goals as goal

pub returns : goal.returns
returns c = stands_last
