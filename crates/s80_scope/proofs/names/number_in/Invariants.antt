use Rattle.std.proofs.Common.{◌≡◌, take}
use Rattle.s80_scope.specs.Names.{number_among}
use Rattle.s80_scope.proofs.names.number_in.Given as goal

abbrev pub invariant-loop-i : goal.invariant-loop-i
invariant-loop-i l = l.number ≡ number_among (take l.i l.names) l.first l.word
