-- Those so far.
use Rattle.std.proofs.Common.{◌≡◌, not, take, map as list_map}
use Rattle.std.specs.List.{filter}
use Rattle.s80_xref.specs.Undeclared.{is_declared}
use Rattle.s80_xref.proofs.names.undeclared.Given as goal

abbrev pub invariant-loop-i : goal.invariant-loop-i
invariant-loop-i l = l.names ≡ list_map (λ w. w) (filter (λ w. not (is_declared l.system.table.classes w)) (take l.i l.referred))
