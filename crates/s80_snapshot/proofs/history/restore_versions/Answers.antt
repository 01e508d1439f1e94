use Rattle.std.proofs.Common.{◌≡◌, ◌∙◌, ◌++◌, ℕ, List, Some, get_or, refl, sym, ap, reverse}
use Rattle.std.specs.Prelude.{if◌then◌else◌, slice_get}
use Rattle.std.proofs.lemmas.List.{take_all}
use Rattle.std.proofs.lemmas.Option.{slice_get-get_or}
use Rattle.s80_history.specs.History.{version_places}
use Rattle.s80_history.specs.Lists.{is_same}
use Rattle.s80_image.specs.History.{versions_of}
use Rattle.s80_snapshot.proofs.Restoring.{either_way, version_more}
use Rattle.s80_snapshot.proofs.history.restore_versions.Goals as goal

pub loop-at-init : goal.loop-at-init
loop-at-init c = (refl, λ name. sym (either_way (is_same name (versions_of c.args.versions.now).name) (version_places c.args.history.now name)))

pub loop-at-preserved : goal.loop-at-preserved
loop-at-preserved c =
    let places = c.deref-at-items.result.now in
    let i = c.loop-at.at-index in
    let read : slice_get places i ≡ Some (get_or places i 0) = slice_get-get_or places i 0 c.loop-at-test.true in (
      c.in_ok-restore_version.ensures.members ∙ c.loop-at.invariant.0,
      λ name. version_more places i (get_or places i 0) (is_same name (versions_of c.args.versions.now).name) (version_places c.args.history.now name) (version_places c.loop-at.history name) (version_places c.restore_version.new.self name) read (c.loop-at.invariant.1 name)
          (c.in_ok-restore_version.ensures.ok name),
    )

pub returns-clause-members : goal.returns-clause-members
returns-clause-members c = c.loop-at.invariant.0

pub returns-clause-versions : goal.returns-clause-versions
returns-clause-versions c = λ name.
    let old = version_places c.args.history.now name in
    let all = take_all c.loop-at.at-index c.deref-at-items.result.now c.loop-at-test.false ∙ c.deref-at-items.ensures.value in
    c.loop-at.invariant.1 name ∙ ap (λ (places : List ℕ). if is_same name (versions_of c.args.versions.now).name then reverse places ++ old else old) all
