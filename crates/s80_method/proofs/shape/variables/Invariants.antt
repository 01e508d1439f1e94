use Rattle.std.proofs.Common.{◌≡◌, drop, reverse}
use Rattle.std.specs.List.{flat_map}
use Rattle.s80_method.specs.Shape.{own_variables}
use Rattle.s80_method.proofs.Numbered.{at_number}
use Rattle.s80_method.proofs.shape.variables.Given as goal

abbrev pub invariant-loop-i : goal.invariant-loop-i
invariant-loop-i l = l.names ≡ flat_map (at_number (λ e. own_variables l.side e.1) l.classes) (reverse (drop l.i l.line))
