use Rattle.std.proofs.Common.{◌≡◌, take, find, None}
use Rattle.std.specs.Str.{bytes_eq}
use Rattle.s80_scope.proofs.names.nearest.Given as goal

abbrev pub invariant-loop-i : goal.invariant-loop-i
invariant-loop-i l = find (λ b. bytes_eq l.word b.name) (take l.i l.variables) ≡ None
