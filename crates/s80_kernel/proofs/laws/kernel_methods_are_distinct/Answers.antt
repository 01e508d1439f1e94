use Rattle.s80_kernel.specs.Methods.{kernel_methods}
use Rattle.s80_kernel.proofs.MethodFacts.{all_are_apart}
use Rattle.s80_kernel.proofs.MethodTests.{all_apart}
use Rattle.s80_kernel.proofs.laws.kernel_methods_are_distinct.Goals as goal

pub returns : goal.returns
returns c = all_are_apart kernel_methods all_apart
