use Rattle.std.proofs.Common.{◌≡◌, ℕ, ◌+◌, get_or, take}
use Rattle.s80_machine.specs.Counted.{count_of}
use Rattle.s80_machine.proofs.contexts.take_all_off.Given as goal

abbrev pub invariant-loop-context : goal.invariant-loop-context
invariant-loop-context l = (b : ℕ) → get_or l.counts b 0 + count_of b (take l.context-index l.ended) ≡ get_or l.initial.counts b 0
