use Rattle.std.proofs.Common.{◌≡◌, map, take}
use Rattle.s80_dict.proofs.dict.named.Given as goal

abbrev pub invariant-loop-selector : goal.invariant-loop-selector
invariant-loop-selector l = l.names ≡ map (λ s. s.now) (take l.selector-index l.selectors)
