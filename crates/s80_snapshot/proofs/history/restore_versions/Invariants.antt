-- The versions of the method so far.
use Rattle.std.proofs.Common.{◌≡◌, ◌++◌, take, reverse}
use Rattle.std.specs.Prelude.{if◌then◌else◌}
use Rattle.s80_history.specs.History.{version_places}
use Rattle.s80_history.specs.Lists.{MethodName, is_same}
use Rattle.s80_image.specs.History.{versions_of}
use Rattle.s80_snapshot.proofs.history.restore_versions.Given as goal

abbrev pub invariant-loop-at : goal.invariant-loop-at
invariant-loop-at l =
    (l.history.members ≡ l.fn.history.members)
    × ((name : MethodName) → version_places l.history name ≡ (if is_same name (versions_of l.versions).name then reverse (take l.at-index l.at-items) ++ version_places l.fn.history name else version_places l.fn.history name))
