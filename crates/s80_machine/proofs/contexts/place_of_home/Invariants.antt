use Rattle.std.proofs.Common.{◌≡◌, reverse, take}
use Rattle.s80_machine.specs.Seen.{below_home}
use Rattle.s80_machine.proofs.contexts.place_of_home.Given as goal

abbrev pub invariant-loop-place : goal.invariant-loop-place
invariant-loop-place l = below_home l.home (reverse (take l.place l.contexts)) ≡ below_home l.home (reverse l.contexts)
