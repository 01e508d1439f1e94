use Rattle.std.proofs.Common.{◌≡◌, ℕ, List, take, reverse, map as list_map, Result, Ok, Err, ◌∙◌}
use Rattle.std.proofs.lemmas.Result.{err_from_is_err_and}
use Rattle.s80_change.specs.declared.change.Change.{Change}
use Rattle.s80_log.specs.Log.{held_in}
use Rattle.s80_history.specs.History.{version_places}
use Rattle.s80_history.specs.Lists.{versions_of}
use Rattle.s80_fileout.specs.Condensed.{newest}
use Rattle.s80_fileout.specs.Order.{name_listed}
use Rattle.s80_keeper.specs.declared.keep.KeepFault.{KeepFault}
use Rattle.s80_keeper.specs.ChangesAt.{AreAddedAt}
use Rattle.s80_keeper.specs.Condensing.{IsAdded}
use Rattle.s80_keeper.specs.Keeper.{Knows}
use Rattle.s80_keeper.proofs.Condensed.{open_placed}
use Rattle.s80_keeper.proofs.Versions.{add_newest, first_of_newest, unadded_so}
use Rattle.s80_keeper.proofs.keeper.Keeper.add_versions.Goals as goal
use Rattle.s80_keeper.proofs.keeper.Keeper.add_versions.Goals.{After-add_changes_at}

module _ (g : _) (c : After-add_changes_at g) where
  -- the places that are read
  there : c.deref.result.now ≡ reverse (take c.args.keep (version_places c.args.self.now.history (name_listed c.args.listed.now)))
  there = c.deref.ensures.value ∙ c.in_ok-places.ensures

  -- what is read at them is added
  added : (list : List Change) (result : Result (Unit {0}) KeepFault) → Knows (g.D.Disk.reads c.args.disk.now) c.args.self.now list → AreAddedAt (held_in (g.D.Disk.reads c.args.disk.now) c.args.self.now.log) c.deref.result.now c.args.changes.now c.add_changes_at.new.changes result → IsAdded c.args.changes.now (newest c.args.keep list (name_listed c.args.listed.now)) c.add_changes_at.new.changes result
  added list result knows read =
      add_newest c.args.keep list (name_listed c.args.listed.now) c.args.self.now.history (held_in (g.D.Disk.reads c.args.disk.now) c.args.self.now.log) c.deref.result.now c.args.changes.now c.add_changes_at.new.changes result knows.lawful knows.history knows.log there read

pub returns-in_err-add_changes_at-clause-list : goal.returns-in_err-add_changes_at-clause-list
returns-in_err-add_changes_at-clause-list g c = λ told list knows.
    let at = (goal.at.returns-in_err-add_changes_at-clause-list g c).After-add_changes_at in
    let fault = c.in_err-add_changes_at.field-0.0 in
    let before = c.args.changes.now in
    let more = newest c.args.keep list (name_listed c.args.listed.now) in
    let now = c.add_changes_at.new.changes in
    let p = err_from_is_err_and c.from_residual-in_err-add_changes_at.result c.from_residual-in_err-add_changes_at.ensures.1 in
    rw (p.1, p.2) (unadded_so (Unit {0}) (List ℕ) fault before more now before more now (added g at list (Err fault) knows (c.in_err-add_changes_at.ensures.read told)))

pub returns-in_err-add_changes_at-clause-open : goal.returns-in_err-add_changes_at-clause-open
returns-in_err-add_changes_at-clause-open g c =
    let p = err_from_is_err_and c.from_residual-in_err-add_changes_at.result c.from_residual-in_err-add_changes_at.ensures.1 in
    rw (p.1, p.2) (open_placed (Unit {0}) (List ℕ) c.deref.result.now c.in_err-add_changes_at.field-0.0 c.in_err-add_changes_at.ensures.placed c.in_err-add_changes_at.ensures.open)

pub returns-clause-list : goal.returns-clause-list
returns-clause-list g c = λ told list knows.
    added g (goal.at.returns-clause-list g c).After-add_changes_at list (Ok tt) knows (c.in_ok-add_changes_at.ensures.read told)

pub returns-clause-category : goal.returns-clause-category
returns-clause-category g c = λ told list knows.
    let versions = list_map (λ p. p.1) (versions_of list (name_listed c.args.listed.now)) in
    let all = added g (goal.at.returns-clause-category g c).After-add_changes_at list (Ok tt) knows (c.in_ok-add_changes_at.ensures.read told) in
    c.in_ok-last_put.ensures c.args.changes.now (take c.args.keep versions) all c.count-from.ensures ∙ first_of_newest c.args.keep versions c.requires.keep
