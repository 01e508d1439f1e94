use Rattle.std.proofs.Common.{◌≡◌, take}
use Rattle.std.specs.List.{flat_map}
use Rattle.s80_method.specs.Shape.{bindings_of}
use Rattle.s80_method.proofs.Numbered.{at_number}
use Rattle.s80_method.proofs.shape.bindings.Given as goal

abbrev pub invariant-loop-number : goal.invariant-loop-number
invariant-loop-number l = l.bindings ≡ flat_map (at_number (λ e. bindings_of e.0 e.1.class_vars) l.classes) (take l.number-index l.line)
