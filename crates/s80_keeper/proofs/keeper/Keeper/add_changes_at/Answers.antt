use Rattle.std.proofs.Common.{◌≡◌, ◌++◌, ◌∷◌, [], List, ℕ, take, drop, get_or, rules, refl, sym, ap, subst, append_assoc, append-nil, ◌∙◌}
use Rattle.std.proofs.lemmas.List.{take_all}
use Rattle.std.proofs.lemmas.Option.{slice_get-get_or}
use Rattle.std.proofs.lemmas.Result.{err_from_is_err_and}
use Rattle.std.specs.Prelude.{Err}
use Rattle.s80_change.specs.declared.change.Change.{Change}
use Rattle.s80_change.specs.Blocks.{BeginsWith}
use Rattle.s80_log.specs.Log.{held_in, log_file}
use Rattle.s80_keeper.specs.ChangesAt.{BeginAt, IsReadAt}
use Rattle.s80_keeper.specs.Keeper.{KeeperState}
use Rattle.s80_keeper.proofs.ChangesRead.{begin_more, failed_at, not_closed, placed_at}
use Rattle.s80_keeper.proofs.keeper.Keeper.add_changes_at.Goals as goal
use Rattle.s80_keeper.proofs.keeper.Keeper.add_changes_at.Goals.{After-block_at}

-- the log reads as at first
same : (g : _) (c : After-block_at g) → held_in (g.D.Disk.reads c.loop-place.disk) c.loop-place.self.log ≡ held_in (g.D.Disk.reads c.args.disk.now) c.args.self.now.log
same g c =
    let so_far = c.loop-place.invariant in
    let log = c.args.self.now.log in
    ap (λ (k : KeeperState). held_in (g.D.Disk.reads c.loop-place.disk) k.log) so_far.same ∙ ap (take log.end) (so_far.untouched.same (log_file log.number))

pub returns-in_err-change-clause-read : goal.returns-in_err-change-clause-read
returns-in_err-change-clause-read g c = λ told.
    let places = c.args.places.now in
    let i = c.loop-place.place-index in
    let log = held_in (g.D.Disk.reads c.args.disk.now) c.args.self.now.log in
    let fault = c.in_err-change.field-0.0 in
    let there = slice_get-get_or places i 0 c.loop-place-test.true in
    let P : List ℕ → Type 0 = λ l. IsReadAt l (get_or places i 0) (Err fault) in
    let read = subst P (same g (goal.at.returns-in_err-change-clause-read g c).After-block_at) (c.in_err-change.ensures.read (c.loop-place.invariant.untouched.telling ∙ told)) in
    let p = err_from_is_err_and c.from_residual.result c.from_residual.ensures.1 in
    rw (p.1, p.2) (failed_at places i (get_or places i 0) there log fault read)

pub returns-in_err-change-clause-placed : goal.returns-in_err-change-clause-placed
returns-in_err-change-clause-placed g c =
    let places = c.args.places.now in
    let i = c.loop-place.place-index in
    let p = err_from_is_err_and c.from_residual.result c.from_residual.ensures.1 in
    rw (p.1, p.2) (placed_at places i (get_or places i 0) (slice_get-get_or places i 0 c.loop-place-test.true) (Change × ℕ) (Unit {0}) c.in_err-change.field-0.0 c.in_err-change.ensures.placed)

pub returns-in_err-change-clause-open : goal.returns-in_err-change-clause-open
returns-in_err-change-clause-open g c = λ failed.
    let p = err_from_is_err_and c.from_residual.result c.from_residual.ensures.1 in
    rw (p.1, p.2) (λ is. not_closed (Change × ℕ) (Unit {0}) c.loop-place.self c.args.self.now c.in_err-change.field-0.0 failed c.loop-place.invariant.same c.requires c.in_err-change.ensures.closed is)

pub loop-place-preserved : goal.loop-place-preserved
loop-place-preserved g c =
    let places = c.args.places.now in
    let i = c.loop-place.place-index in
    let log = held_in (g.D.Disk.reads c.args.disk.now) c.args.self.now.log in
    let so_far = c.loop-place.invariant in
    let change = c.in_ok-change.change in
    let Begins : List ℕ → Type 0 = λ l. BeginsWith (drop (get_or places i 0) l) change in
    record {
      read = λ told.
          let one = subst Begins (same g (goal.at.loop-place-preserved g c).After-block_at) (c.in_ok-change.ensures.read (so_far.untouched.telling ∙ told)).0 in
          let before = so_far.read told in (
            before.0 ++ change ∷ [],
            c.in_ok-push.ensures.ok ∙ ap (λ l. l ++ change ∷ []) before.1 ∙ append_assoc c.args.changes.now before.0 (change ∷ []),
            begin_more log places i before.0 change c.loop-place-test.true before.2 one,
          );
      same = ◌∙◌ {b = c.loop-place.self} c.in_ok-change.ensures.after c.loop-place.invariant.same;
      untouched = search rules;
      faults_stay = c.in_ok-change.ensures.faults_stay ∙ so_far.faults_stay;
    }

pub loop-place-init : goal.loop-place-init
loop-place-init g c = record {
  read = λ told. ([], sym (append-nil c.args.changes.now), tt);
  same = refl;
  untouched = search rules;
  faults_stay = refl;
}

pub returns-clause-read : goal.returns-clause-read
returns-clause-read g c = λ told.
    let places = c.args.places.now in
    let log = held_in (g.D.Disk.reads c.args.disk.now) c.args.self.now.log in
    let read = c.loop-place.invariant.read told in
    (read.0, read.1, subst (λ ps. BeginAt log ps read.0) (take_all c.loop-place.place-index places c.loop-place-test.false) read.2)
