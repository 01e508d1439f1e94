use Rattle.std.proofs.Common.{◌≡◌, take}
use Rattle.std.specs.Str.{bytes_eq}
use Rattle.s80_scope.specs.Names.{last_place}
use Rattle.s80_scope.proofs.names.last_variable.Given as goal

abbrev pub invariant-loop-i : goal.invariant-loop-i
invariant-loop-i l = l.last ≡ last_place (bytes_eq l.word) (take l.i l.variables)
