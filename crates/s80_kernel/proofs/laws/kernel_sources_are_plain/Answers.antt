use Rattle.s80_kernel.specs.Methods.{kernel_methods}
use Rattle.s80_kernel.proofs.MethodFacts.{all_are_plain}
use Rattle.s80_kernel.proofs.MethodTests.{all_plain}
use Rattle.s80_kernel.proofs.laws.kernel_sources_are_plain.Goals as goal

pub returns : goal.returns
returns c = all_are_plain kernel_methods all_plain
