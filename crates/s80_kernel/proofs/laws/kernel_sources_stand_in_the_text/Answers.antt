use Rattle.s80_kernel.specs.Text.{kernel_text}
use Rattle.s80_kernel.specs.Methods.{kernel_methods}
use Rattle.s80_kernel.proofs.MethodFacts.{all_stand_in}
use Rattle.s80_kernel.proofs.MethodTests.{all_stand}
use Rattle.s80_kernel.proofs.laws.kernel_sources_stand_in_the_text.Goals as goal

pub returns : goal.returns
returns c = all_stand_in kernel_text kernel_methods all_stand
