-- The versions so far.
use Rattle.std.proofs.Common.{◌≡◌, take, reverse}
use Rattle.s80_history.specs.History.{version_places}
use Rattle.s80_history.specs.Lists.{MethodName}
use Rattle.s80_image.specs.History.{all_versions_of}
use Rattle.s80_snapshot.specs.Restored.{places_of}
use Rattle.s80_snapshot.proofs.history.restore_all_versions.Given as goal

abbrev pub invariant-loop-versions : goal.invariant-loop-versions
invariant-loop-versions l =
    (l.history.members ≡ l.fn.history.members) × ((name : MethodName) → version_places l.history name ≡ reverse (places_of (take l.versions-index (all_versions_of l.all)) name))
