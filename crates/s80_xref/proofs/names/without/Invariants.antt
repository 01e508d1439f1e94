-- Those so far.
use Rattle.std.proofs.Common.{◌≡◌, not, take, map as list_map}
use Rattle.std.specs.List.{filter, list_any}
use Rattle.std.specs.Str.{bytes_eq}
use Rattle.s80_xref.proofs.names.without.Given as goal

abbrev pub invariant-loop-i : goal.invariant-loop-i
invariant-loop-i l = l.names ≡ list_map (λ w. w) (filter (λ w. not (list_any (bytes_eq w) l.others)) (take l.i l.all))
