use Rattle.std.proofs.Common.{◌≡◌, ◌++◌, take}
use Rattle.s80_method.proofs.shape.add_names.Given as goal

abbrev pub invariant-loop-i : goal.invariant-loop-i
invariant-loop-i l = l.names ≡ l.fn.names ++ take l.i l.more
