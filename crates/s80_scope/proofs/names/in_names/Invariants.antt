use Rattle.std.proofs.Common.{◌≡◌, take, find, None}
use Rattle.s80_scope.specs.Names.{is_at}
use Rattle.s80_scope.proofs.names.in_names.Given as goal

abbrev pub invariant-loop-name : goal.invariant-loop-name
invariant-loop-name l = find (is_at l.at) (take l.name-index l.names) ≡ None
