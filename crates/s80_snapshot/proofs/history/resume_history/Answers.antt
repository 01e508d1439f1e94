use Rattle.std.proofs.Common.{◌∙◌, ◌++◌, List, sym, ap, subst, reverse}
use Rattle.s80_history.specs.History.{HistoryState, version_places}
use Rattle.s80_image.specs.declared.image.MethodVersions.{MethodVersions}
use Rattle.s80_image.specs.History.{all_versions_of}
use Rattle.s80_image.specs.Image.{view_of}
use Rattle.s80_snapshot.specs.Restored.{places_of}
use Rattle.s80_snapshot.specs.Restoring.{AreDifferent}
use Rattle.s80_snapshot.proofs.Restoring.{are_different}
use Rattle.s80_snapshot.proofs.history.resume_history.Goals as goal

pub restore_all_versions-requires-clause-different : goal.restore_all_versions-requires-clause-different
restore_all_versions-requires-clause-different c = subst (λ (vs : List MethodVersions). AreDifferent (all_versions_of vs)) (sym c.deref-2.ensures.value) (are_different (view_of c.args.image.now) c.requires.fields)

pub restore_all_versions-requires-clause-none : goal.restore_all_versions-requires-clause-none
restore_all_versions-requires-clause-none c = λ name. c.in_ok-restore_members.ensures.versions name ∙ ap (λ (h : HistoryState). version_places h name) c.empty-history.ensures.none

pub returns : goal.returns
returns c = record {
  members = c.in_ok-restore_all_versions.ensures.members ∙ c.in_ok-restore_members.ensures.members ∙ ap (λ (h : HistoryState). h.members ++ c.deref.result.now) c.empty-history.ensures.none ∙ c.deref.ensures.value;
  versions = λ name. c.in_ok-restore_all_versions.ensures.versions name ∙ ap (λ (vs : List MethodVersions). reverse (places_of (all_versions_of vs) name)) c.deref-2.ensures.value;
}
