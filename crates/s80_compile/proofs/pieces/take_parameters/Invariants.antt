use Rattle.std.proofs.Common.{◌+◌, ◌-◌}
use Rattle.s80_compile.specs.Emitted.{AddsTakes}
use Rattle.s80_compile.proofs.pieces.take_parameters.Given as goal

abbrev pub invariant-loop-number : goal.invariant-loop-number
invariant-loop-number l = AddsTakes (l.first + (l.parameters - l.number)) l.number l.fn.code l.code
