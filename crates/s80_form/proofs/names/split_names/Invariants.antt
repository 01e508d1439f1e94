-- The pieces seen, but for those that are nothing.
use Rattle.std.proofs.Common.{◌≡◌, map, not}
use Rattle.std.specs.List.{filter}
use Rattle.s80_form.specs.Definition.{is_empty}
use Rattle.s80_form.proofs.names.split_names.Given as goal

abbrev pub invariant-loop-piece : goal.invariant-loop-piece
invariant-loop-piece l = l.names ≡ filter (λ piece. not (is_empty piece)) (map (λ x. x.now) l.yielded)
