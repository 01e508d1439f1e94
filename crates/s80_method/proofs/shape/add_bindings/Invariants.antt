use Rattle.std.proofs.Common.{◌≡◌, ◌++◌, take}
use Rattle.s80_method.specs.Shape.{bindings_of}
use Rattle.s80_method.proofs.shape.add_bindings.Given as goal

abbrev pub invariant-loop-i : goal.invariant-loop-i
invariant-loop-i l = l.bindings ≡ l.fn.bindings ++ bindings_of l.class_name (take l.i l.class_vars)
