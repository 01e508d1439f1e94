-- The methods so far.
use Rattle.std.proofs.Common.{take}
use Rattle.s80_kernel.specs.Methods.{kernel_methods}
use Rattle.s80_apply.proofs.Booting.{HasMethodsOf}
use Rattle.s80_apply.proofs.kernel.put_kernel_methods.Given as goal

abbrev pub invariant-loop-method : goal.invariant-loop-method
invariant-loop-method l = HasMethodsOf l.fn.classes l.methods (take l.method-index kernel_methods)
