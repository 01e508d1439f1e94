use Rattle.std.proofs.Common.{◌≡◌, ◌≤◌, ◌∙◌, List, Some, length, refl, ap, reverse, arith}
use Rattle.std.specs.Prelude.{slice_get}
use Rattle.std.proofs.lemmas.List.{length-map, take_all}
use Rattle.s80_history.specs.History.{version_places}
use Rattle.s80_image.specs.History.{VersionsView, all_versions_of, versions_of}
use Rattle.s80_snapshot.specs.Restored.{places_of}
use Rattle.s80_snapshot.proofs.Restoring.{read_at, seen_at, versions_more}
use Rattle.s80_snapshot.proofs.history.restore_all_versions.Goals as goal

pub loop-versions-init : goal.loop-versions-init
loop-versions-init c = (refl, c.requires.none)

pub loop-versions-preserved : goal.loop-versions-preserved
loop-versions-preserved c =
    let all = c.args.all.now in
    let i = c.loop-versions.versions-index in
    let x = c.versions-item.result in
    let read : slice_get (all_versions_of all) i ≡ Some (versions_of x) = seen_at versions_of all i x (read_at all i x c.loop-versions-test.true c.versions-item.is) in (
      c.in_ok-restore_versions.ensures.members ∙ c.loop-versions.invariant.0,
      λ name. versions_more (all_versions_of all) i (versions_of x) name (version_places c.loop-versions.history name) (version_places c.restore_versions.new.history name) c.requires.different read (c.loop-versions.invariant.1 name)
          (c.in_ok-restore_versions.ensures.versions name),
    )

pub returns-clause-members : goal.returns-clause-members
returns-clause-members c = c.loop-versions.invariant.0

pub returns-clause-versions : goal.returns-clause-versions
returns-clause-versions c = λ name.
    let all = all_versions_of c.args.all.now in
    let past : length all ≤ c.loop-versions.versions-index = omega (arith, length-map c.args.all.now versions_of, c.loop-versions-test.false) in
    c.loop-versions.invariant.1 name ∙ ap (λ (vs : List VersionsView). reverse (places_of vs name)) (take_all c.loop-versions.versions-index all past)
