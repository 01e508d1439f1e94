-- The classes so far, each with dictionaries without methods.
use Rattle.std.proofs.Common.{take, map}
use Rattle.s80_kernel.specs.Rows.{row_of}
use Rattle.s80_apply.proofs.Booting.{AreBare}
use Rattle.s80_apply.proofs.kernel.booted_classes.Given as goal

abbrev pub invariant-loop-class : goal.invariant-loop-class
invariant-loop-class l = AreBare l.classes l.methods (take l.class-index (map row_of l.class-items))
