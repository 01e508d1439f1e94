-- The members so far.
use Rattle.std.proofs.Common.{◌≡◌, ◌++◌, take}
use Rattle.s80_history.specs.History.{version_places}
use Rattle.s80_history.specs.Lists.{MethodName}
use Rattle.s80_snapshot.proofs.history.restore_members.Given as goal

abbrev pub invariant-loop-member : goal.invariant-loop-member
invariant-loop-member l = (l.history.members ≡ l.fn.history.members ++ take l.member-index l.members) × ((name : MethodName) → version_places l.history name ≡ version_places l.fn.history name)
