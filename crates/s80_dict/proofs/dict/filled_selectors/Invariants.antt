use Rattle.std.proofs.Common.{◌≡◌, map}
use Rattle.std.specs.Map.Iter.{deref_pair}
use Rattle.s80_dict.specs.Slots.{selectors_of}
use Rattle.s80_dict.proofs.dict.filled_selectors.Given as goal

abbrev pub invariant-loop-selector : goal.invariant-loop-selector
invariant-loop-selector g l = map (λ s. s.now) l.selectors.items ≡ selectors_of (map deref_pair l.yielded)
