use Rattle.std.proofs.Common.{refl, rules}
use Rattle.s80_kernel.specs.Methods.{kernel_methods}
use Rattle.s80_kernel.proofs.MethodFacts.{kernel_inside}
use Rattle.s80_kernel.proofs.methods.method_rows.Goals as goal

pub returns-clause-rows : goal.returns-clause-rows
unfolding kernel_methods
returns-clause-rows c = refl

pub returns-clause-inside : goal.returns-clause-inside
returns-clause-inside c = let held = returns-clause-rows c in search (rules, kernel_inside)
