use Rattle.std.proofs.Common.{◌≡◌, ◌<◌, ◌+◌, ◌++◌, ◌∷◌, [], List, length, None, ap}
use Rattle.std.proofs.lemmas.Result.{err_from_is_err_and}
use Rattle.std.specs.Prelude.{⊤}
use Rattle.s80_change.specs.declared.change.Change.{Change}
use Rattle.s80_change.specs.Block.{block, log_limit, IsLawful}
use Rattle.s80_disk.specs.Moments.{Beside, LeavesOnly}
use Rattle.s80_apply.specs.List.{state_of}
use Rattle.s80_apply.specs.Placed.{placed_of}
use Rattle.s80_log.specs.Commit.{LeavesBeside}
use Rattle.s80_log.specs.Log.{log_file}
use Rattle.s80_keeper.specs.Keeper.{Keeps}
use Rattle.s80_keeper.specs.Standing.{LeavesEither}
use Rattle.s80_keeper.specs.Answers.{IsFor, PlacesFor}
use Rattle.s80_keeper.proofs.Together.{after_failed, after_uncommitted, closed_uncommitted, either_stands, elsewhere_on, full_uncommitted, had_room, kept_failed, kept_uncommitted, same_file, stands_either, was_open}
use Rattle.s80_keeper.proofs.keeper.Keeper.keep.Goals as goal
use Rattle.s80_keeper.proofs.keeper.Keeper.keep.Goals.{After-commit}

-- ---- where the change wasn't taken in

pub returns-in_err-at-clause-after : goal.returns-in_err-at-clause-after
returns-in_err-at-clause-after g c =
    let p = err_from_is_err_and c.from_residual.result c.from_residual.ensures.1 in
    rw (p.1, p.2) (after_failed c.in_err-at.field-0.0 c.args.prepared c.args.self.now c.keep_later.new.self c.in_err-at.ensures.after)

pub returns-in_err-at-clause-any_moment : goal.returns-in_err-at-clause-any_moment
returns-in_err-at-clause-any_moment g c = λ changes keeps lawful ready places.
    let D = g.D.Disk in
    let d = c.args.disk.now in
    stands_either D.moment D.left_since d c.keep_later.new.disk (D.beside d).told changes (changes ++ c.args.prepared.change ∷ []) (c.keep_later.ensures.any_moment changes changes keeps)

pub returns-in_err-at-clause-kept : goal.returns-in_err-at-clause-kept
returns-in_err-at-clause-kept g c = λ changes keeps lawful ready places.
    let D = g.D.Disk in
    let new = c.keep_later.new.disk in
    let p = err_from_is_err_and c.from_residual.result c.from_residual.ensures.1 in
    rw (p.1, p.2) (kept_failed c.in_err-at.field-0.0 (D.tells new) (D.reads new) (D.may_leave new) c.keep_later.new.self changes c.args.prepared.change (c.in_err-at.ensures.kept changes changes keeps lawful ready places))

pub returns-in_err-at-clause-closed : goal.returns-in_err-at-clause-closed
returns-in_err-at-clause-closed g c = λ failed.
    let p = err_from_is_err_and c.from_residual.result c.from_residual.ensures.1 in
    rw (p.1, p.2) (c.in_err-at.ensures.closed failed)

pub returns-in_err-at-clause-full : goal.returns-in_err-at-clause-full
returns-in_err-at-clause-full g c = λ n.
    let p = err_from_is_err_and c.from_residual.result c.from_residual.ensures.1 in
    rw (p.1, p.2) (c.in_err-at.ensures.full n)

-- ---- where it was, and was to be committed

none : (g : _) (c : After-commit g) → c.args.self.now.fault ≡ None
none g c = was_open c.args.self.now.fault c.in_ok-at.at c.in_ok-at.ensures.closed

room : (g : _) (c : After-commit g) → log_limit < c.args.self.now.log.end + length (block c.args.prepared.change) → ⊥
room g c = had_room c.args.self.now.fault c.in_ok-at.at c.args.self.now.log.end (length (block c.args.prepared.change)) (none g c) c.in_ok-at.ensures.full

others_stay : (g : _) (c : After-commit g) → LeavesOnly g.D.Disk.moment g.D.Disk.left_since c.args.disk.now c.commit.new.disk (LeavesBeside (g.D.Disk.may_leave c.args.disk.now) (g.D.Disk.beside c.args.disk.now).told (log_file c.args.self.now.log.number) (λ e. ⊤))
others_stay g c =
    let D = g.D.Disk in
    let d = c.args.disk.now in
    let mid = c.keep_later.new.disk in
    elsewhere_on D.moment D.left_since d mid c.commit.new.disk (D.beside d).told (D.beside mid).told (ap (λ (b : Beside). b.told) c.keep_later.ensures.beside) (D.may_leave d) (D.may_leave mid) (log_file c.args.self.now.log.number) (log_file c.keep_later.new.self.log.number) (same_file c.args.prepared c.args.self.now c.keep_later.new.self c.in_ok-at.ensures.after)
    (g.met.D.Disk.counts_now mid) c.keep_later.ensures.elsewhere c.commit.ensures.elsewhere

module _ (g : _) (c : After-commit g) (changes : List Change) (keeps : Keeps (g.D.Disk.tells c.args.disk.now) (g.D.Disk.reads c.args.disk.now) (g.D.Disk.may_leave c.args.disk.now) c.args.self.now changes changes) (lawful : IsLawful c.args.prepared.change) (ready : IsFor (state_of changes) c.args.self.now.system c.args.prepared)
    (places : PlacesFor (placed_of changes) c.args.self.now.system c.args.prepared) where
  -- the change is pending
  taken : Keeps (g.D.Disk.tells c.keep_later.new.disk) (g.D.Disk.reads c.keep_later.new.disk) (g.D.Disk.may_leave c.keep_later.new.disk) c.keep_later.new.self changes (changes ++ c.args.prepared.change ∷ [])
  taken = c.in_ok-at.ensures.kept changes changes keeps lawful ready places

  run : LeavesOnly g.D.Disk.moment g.D.Disk.left_since c.args.disk.now c.commit.new.disk (LeavesEither (g.D.Disk.beside c.args.disk.now).told changes (changes ++ c.args.prepared.change ∷ []))
  run =
      let D = g.D.Disk in
      let d = c.args.disk.now in
      let mid = c.keep_later.new.disk in
      let all = changes ++ c.args.prepared.change ∷ [] in
      either_stands D.moment D.left_since d mid c.commit.new.disk (D.beside d).told (D.beside mid).told (ap (λ (b : Beside). b.told) c.keep_later.ensures.beside) changes all (c.keep_later.ensures.any_moment changes changes keeps) (c.commit.ensures.any_moment changes all taken)

-- ---- where that failed

pub returns-in_err-commit-clause-after : goal.returns-in_err-commit-clause-after
returns-in_err-commit-clause-after g c =
    let at = (goal.at.returns-in_err-commit-clause-after g c).After-commit in
    let p = err_from_is_err_and c.from_residual-in_err-commit.result c.from_residual-in_err-commit.ensures.1 in
    rw (p.1, p.2) (after_uncommitted (Unit {0}) c.in_err-commit.field-0.0 c.args.prepared c.args.self.now c.keep_later.new.self c.commit.new.self (none g at) c.in_ok-at.ensures.after c.in_err-commit.ensures.closed c.in_err-commit.ensures.after)

pub returns-in_err-commit-clause-any_moment : goal.returns-in_err-commit-clause-any_moment
returns-in_err-commit-clause-any_moment g c = run g (goal.at.returns-in_err-commit-clause-any_moment g c).After-commit

pub returns-in_err-commit-clause-kept : goal.returns-in_err-commit-clause-kept
returns-in_err-commit-clause-kept g c = λ changes keeps lawful ready places.
    let D = g.D.Disk in
    let new = c.commit.new.disk in
    let at = (goal.at.returns-in_err-commit-clause-kept g c).After-commit in
    let p = err_from_is_err_and c.from_residual-in_err-commit.result c.from_residual-in_err-commit.ensures.1 in
    rw (p.1, p.2) (kept_uncommitted (Unit {0}) c.in_err-commit.field-0.0 (D.tells new) (D.reads new) (D.may_leave new) c.commit.new.self changes c.args.prepared.change (c.in_err-commit.ensures.committed changes (changes ++ c.args.prepared.change ∷ []) (taken g at changes keeps lawful ready places)))

pub returns-in_err-commit-clause-closed : goal.returns-in_err-commit-clause-closed
returns-in_err-commit-clause-closed g c = λ failed.
    let at = (goal.at.returns-in_err-commit-clause-closed g c).After-commit in
    let p = err_from_is_err_and c.from_residual-in_err-commit.result c.from_residual-in_err-commit.ensures.1 in
    rw (p.1, p.2) (closed_uncommitted (Unit {0}) c.in_err-commit.field-0.0 c.args.prepared c.args.self.now c.keep_later.new.self c.in_ok-at.ensures.after (none g at) c.in_err-commit.ensures.closed failed)

pub returns-in_err-commit-clause-full : goal.returns-in_err-commit-clause-full
returns-in_err-commit-clause-full g c = λ n.
    let at = (goal.at.returns-in_err-commit-clause-full g c).After-commit in
    let p = err_from_is_err_and c.from_residual-in_err-commit.result c.from_residual-in_err-commit.ensures.1 in
    rw (p.1, p.2) (full_uncommitted (Unit {0}) c.in_err-commit.field-0.0 c.keep_later.new.self c.commit.new.self c.args.self.now.log.end (length (block c.args.prepared.change)) n (c.args.self.now.fault ≡ None) c.in_err-commit.ensures.after (room g at))

pub returns-in_err-commit-clause-unfit : goal.returns-in_err-commit-clause-unfit
returns-in_err-commit-clause-unfit g c = λ over. absurd (room g (goal.at.returns-in_err-commit-clause-unfit g c).After-commit over)

pub returns-in_err-commit-clause-elsewhere : goal.returns-in_err-commit-clause-elsewhere
returns-in_err-commit-clause-elsewhere g c = others_stay g (goal.at.returns-in_err-commit-clause-elsewhere g c).After-commit

-- ---- where it succeeded

pub returns-clause-any_moment : goal.returns-clause-any_moment
returns-clause-any_moment g c = run g (goal.at.returns-clause-any_moment g c).After-commit

pub returns-clause-kept : goal.returns-clause-kept
returns-clause-kept g c = λ changes keeps lawful ready places.
    c.in_ok-commit.ensures.committed changes (changes ++ c.args.prepared.change ∷ []) (taken g (goal.at.returns-clause-kept g c).After-commit changes keeps lawful ready places)

pub returns-clause-unfit : goal.returns-clause-unfit
returns-clause-unfit g c = λ over. absurd (room g (goal.at.returns-clause-unfit g c).After-commit over)

pub returns-clause-elsewhere : goal.returns-clause-elsewhere
returns-clause-elsewhere g c = others_stay g (goal.at.returns-clause-elsewhere g c).After-commit
