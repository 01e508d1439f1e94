use Rattle.std.proofs.Common.{◌-◌, length}
use Rattle.std.specs.BTreeSet.{btree_set_len}
use Rattle.s80_apply.proofs.Seen.{AreSeen}
use Rattle.s80_apply.proofs.checks.first_again.Given as goal

abbrev pub invariant-loop-alloc : goal.invariant-loop-alloc
invariant-loop-alloc l = AreSeen l.before l.names

abbrev pub decreases-loop-alloc : goal.decreases-loop-alloc
decreases-loop-alloc l = length l.names - btree_set_len l.before
