use Rattle.std.proofs.Common.{◌≡◌, map, take}
use Rattle.s80_machine.proofs.selectors.named.Given as goal

abbrev pub invariant-loop-message : goal.invariant-loop-message
invariant-loop-message l = l.names ≡ map (λ m. m.selector.now) (take l.message-index l.messages)
