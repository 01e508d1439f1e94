use Rattle.std.proofs.Common.{◌≡◌, length, take}
use Rattle.s80_machine.proofs.contexts.end_from.Given as goal

abbrev pub invariant-loop-contexts : goal.invariant-loop-contexts
invariant-loop-contexts l = take l.place l.contexts.items ≡ take l.place l.initial.contexts.items

abbrev pub decreases-loop-contexts : goal.decreases-loop-contexts
decreases-loop-contexts l = length l.contexts.items
