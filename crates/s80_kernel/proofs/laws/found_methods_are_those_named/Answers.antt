use Rattle.s80_kernel.specs.Methods.{found_method, kernel_methods}
use Rattle.s80_kernel.proofs.MethodFacts.{all_are_apart, found_exactly}
use Rattle.s80_kernel.proofs.MethodTests.{all_apart}
use Rattle.s80_kernel.proofs.laws.found_methods_are_those_named.Goals as goal

pub returns : goal.returns
unfolding found_method
returns c = λ class on_class_side selector row. found_exactly kernel_methods class on_class_side selector row (all_are_apart kernel_methods all_apart)
