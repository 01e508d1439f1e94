use Rattle.s80_kernel.proofs.MethodTests.{all_of_sections}
use Rattle.s80_kernel.proofs.laws.kernel_methods_are_those_of_the_sections.Goals as goal

pub returns : goal.returns
returns c = all_of_sections
