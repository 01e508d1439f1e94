use Rattle.std.proofs.Common.{◌≡◌, ◌∙◌, ◌<◌, ◌≤◌, ◌++◌, ◌∷◌, ℕ, IsTrue, List, length, Some, refl, sym, ap, subst, arith}
use Rattle.std.proofs.lemmas.Result.{err_from_is_err_and}
use Rattle.s80_change.specs.declared.change.Change.{Change}
use Rattle.s80_disk.specs.Image.{Image}
use Rattle.s80_disk.specs.Moments.{LeavesOnly}
use Rattle.s80_disk.specs.Shown.{Faults, Shown}
use Rattle.s80_disk.proofs.lemmas.Run.{joined, started}
use Rattle.s80_disk.proofs.lemmas.Showing.{told_beside}
use Rattle.s80_joining.specs.Parts.{base_of}
use Rattle.s80_keeper.specs.declared.keep.KeepFault.{KeepFault}
use Rattle.s80_keeper.specs.declared.keep.KeepFault.TheVariants as faults
use Rattle.s80_keeper.specs.Keeper.{KeeperState, Knows}
use Rattle.s80_keeper.specs.Source.{after_reading}
use Rattle.s80_session.specs.Putting.{IsAsBefore}
use Rattle.s80_session.proofs.BaseRead.{all_read, cause_so, counted_so, failed_so, fails_so, left_so, more_read, never_full_at, none_known, none_read, read_on, stay_so}
use Rattle.s80_session.proofs.Reading.{faults_same}
use Rattle.s80_session.proofs.base.read_base.Goals as goal
use Rattle.s80_session.proofs.base.read_base.Goals.{After-read_block, In_ok-change}

-- what holds behind a block that was to be read
module _ (g : _) (c : After-read_block g) where
  run : LeavesOnly g.O.Disk.moment g.O.Disk.left_since c.args.outside.now c.read_block.new.outside (IsAsBefore (g.O.Disk.may_leave c.args.outside.now) (g.O.Outside.shown c.args.outside.now).told 0)
  run =
      let D = g.O.Disk in
      let first = c.args.outside.now in
      let mid = c.loop-at.outside in
      let so_far = c.loop-at.invariant in
      let same = ap (λ (o : Shown). o.told) so_far.shown in
      joined D.moment D.left_since first mid c.read_block.new.outside (IsAsBefore (D.may_leave first) (g.O.Outside.shown first).told 0) (IsAsBefore (D.may_leave mid) (g.O.Outside.shown mid).told 0) so_far.any_moment c.read_block.ensures.any_moment (read_on (D.may_leave first) (D.may_leave mid) (g.O.Outside.shown first).told (g.O.Outside.shown mid).told same so_far.images)

  less : (image : Image) → g.O.Disk.may_leave c.read_block.new.outside image → g.O.Disk.may_leave c.args.outside.now image
  less = λ image left. c.loop-at.invariant.images image (c.read_block.ensures.images image left)

  seen : g.O.Outside.shown c.read_block.new.outside ≡ g.O.Outside.shown c.args.outside.now
  seen = c.read_block.ensures.shown ∙ c.loop-at.invariant.shown

  counts : g.O.Outside.faults c.read_block.new.outside ≡ record (g.O.Outside.faults c.args.outside.now) { disk = (g.O.Outside.faults c.read_block.new.outside).disk }
  counts =
      let disk = (g.O.Outside.faults c.read_block.new.outside).disk in
      c.read_block.ensures.faults ∙ ap (λ (f : Faults). record f { disk = disk }) c.loop-at.invariant.faults

  later : (g.O.Outside.faults c.args.outside.now).disk ≤ (g.O.Outside.faults c.read_block.new.outside).disk
  later =
      let disk = (g.O.Outside.faults c.read_block.new.outside).disk in
      subst (λ (f : Faults). f.disk ≤ disk) c.loop-at.invariant.faults c.read_block.ensures.later

  disk_same : (g.O.Outside.faults c.loop-at.outside).disk ≡ (g.O.Outside.faults c.args.outside.now).disk
  disk_same = ap (λ (f : Faults). f.disk) c.loop-at.invariant.faults

  -- what was known at first is known here
  told_here : IsTrue (g.O.Outside.shown c.args.outside.now).tells → IsTrue (g.O.Outside.shown c.loop-at.outside).tells
  told_here told = subst (λ (o : Shown). IsTrue o.tells) (sym c.loop-at.invariant.shown) told

  knows_here : (list : List Change) → Knows (g.O.Outside.shown c.args.outside.now).files c.args.keeper.now list → Knows (g.O.Outside.shown c.loop-at.outside).files c.loop-at.keeper list
  knows_here list knows =
      let files = (g.O.Outside.shown c.args.outside.now).files in
      subst (λ (o : Shown). Knows o.files c.loop-at.keeper list) (sym c.loop-at.invariant.shown) (subst (λ (k : KeeperState). Knows files k list) (sym c.loop-at.invariant.same) knows)

  -- the end isn't reached
  before_end : c.loop-at.at < c.args.keeper.now.log.end
  before_end = omega (arith, c.loop-at-test.true, c.log_length.ensures, ap (λ (k : KeeperState). k.log.end) c.loop-at.invariant.same)

-- ---- the loop

pub loop-at-init : goal.loop-at-init
loop-at-init g c =
    let D = g.O.Disk in
    let o = c.args.outside.now in
    let same = told_beside g.met.O.Outside.beside_is g.met.O.Outside.shown_is o in
    record {
      read = λ told changes knows end. none_read c.none-base.result changes c.none-base.ensures;
      same = refl;
      images = λ image left. left;
      any_moment = started D.moment D.left_since o (IsAsBefore (D.may_leave o) (g.O.Outside.shown o).told 0) (λ told image left.
          let now = g.met.O.Disk.only_now o told image left in
          let is = now.1 ∙ same in
          record { no_fewer = omega (arith, is); no_more = omega (arith, is); was = now.0 });
      shown = refl;
      faults = refl;
    }

pub loop-at-preserved : goal.loop-at-preserved
loop-at-preserved g c =
    let here = (goal.at.loop-at-preserved g c).After-read_block in
    let so_far = c.loop-at.invariant in
    let known : List Change → Type 0 = λ list. Knows (g.O.Outside.shown c.args.outside.now).files c.args.keeper.now list in
    record {
      read = λ told changes knows end. more_read known changes knows c.loop-at.at c.args.keeper.now.log.end end (before_end g here) (c.in_ok-change.change, c.in_ok-change.next) (λ before behind change k at. c.in_ok-change.ensures.block (told_here g here told) before behind change (knows_here g here (before ++ change ∷ behind) k) at) c.loop-at.base c.read.new.self (so_far.read told changes knows end) c.in_ok-read.ensures;
      same = c.in_ok-change.ensures.after ∙ so_far.same;
      images = less g here;
      any_moment = run g here;
      shown = seen g here;
      faults = faults_same (g.O.Outside.faults c.args.outside.now) (g.O.Outside.faults c.read_block.new.outside) (counts g here) (c.in_ok-change.ensures.faults_stay ∙ disk_same g here);
    }

pub loop-at-smaller : goal.loop-at-smaller
loop-at-smaller g c =
    let same = ap (λ (k : KeeperState). k.log.end) c.in_ok-change.ensures.after in
    omega (arith, same, c.in_ok-change.ensures.next.0, c.in_ok-change.ensures.next.1)

-- ---- a block isn't read

pub returns-in_err-change-clause-base : goal.returns-in_err-change-clause-base
returns-in_err-change-clause-base g c = λ told changes knows end.
    let here = (goal.at.returns-in_err-change-clause-base g c).After-read_block in
    let known : List Change → Type 0 = λ list. Knows (g.O.Outside.shown c.args.outside.now).files c.args.keeper.now list in
    let p = err_from_is_err_and c.from_residual.result c.from_residual.ensures.1 in
    rw (p.1, p.2) (none_known known changes knows c.loop-at.at c.args.keeper.now.log.end end (before_end g here) c.in_err-change.field-0.0 (λ before behind change k at. c.in_err-change.ensures.block (told_here g here told) before behind change (knows_here g here (before ++ change ∷ behind) k) at) c.loop-at.base (c.loop-at.invariant.read told changes knows end) (base_of changes))

pub returns-in_err-change-clause-unfilled : goal.returns-in_err-change-clause-unfilled
returns-in_err-change-clause-unfilled g c = λ count.
    let fault = c.in_err-change.field-0.0 in
    let p = err_from_is_err_and c.from_residual.result c.from_residual.ensures.1 in
    rw (p.1, p.2) (λ is. never_full_at (Change × ℕ) c.loop-at.at (failed_so (Change × ℕ) fault) c.in_err-change.ensures.placed count (fails_so (List Change) (Change × ℕ) fault (faults.Full count) is))

pub returns-in_err-change-clause-after : goal.returns-in_err-change-clause-after
returns-in_err-change-clause-after g c =
    let fault = c.in_err-change.field-0.0 in
    let p = err_from_is_err_and c.from_residual.result c.from_residual.ensures.1 in
    rw (p.1, p.2) (c.in_err-change.ensures.after ∙ ap (after_reading (failed_so (Change × ℕ) fault)) c.loop-at.invariant.same ∙ left_so (Change × ℕ) (List Change) fault c.args.keeper.now)

pub returns-in_err-change-clause-closed : goal.returns-in_err-change-clause-closed
returns-in_err-change-clause-closed g c = λ failed.
    let fault = c.in_err-change.field-0.0 in
    let p = err_from_is_err_and c.from_residual.result c.from_residual.ensures.1 in
    rw (p.1, p.2) (λ is. subst (λ (k : KeeperState). k.fault ≡ Some failed) c.loop-at.invariant.same ((c.in_err-change.ensures.closed failed).0 (fails_so (List Change) (Change × ℕ) fault (faults.Closed failed) is)))

pub returns-in_err-change-clause-images : goal.returns-in_err-change-clause-images
returns-in_err-change-clause-images g c = less g (goal.at.returns-in_err-change-clause-images g c).After-read_block

pub returns-in_err-change-clause-any_moment : goal.returns-in_err-change-clause-any_moment
returns-in_err-change-clause-any_moment g c = run g (goal.at.returns-in_err-change-clause-any_moment g c).After-read_block

pub returns-in_err-change-clause-shown : goal.returns-in_err-change-clause-shown
returns-in_err-change-clause-shown g c = seen g (goal.at.returns-in_err-change-clause-shown g c).After-read_block

pub returns-in_err-change-clause-faults : goal.returns-in_err-change-clause-faults
returns-in_err-change-clause-faults g c = counts g (goal.at.returns-in_err-change-clause-faults g c).After-read_block

pub returns-in_err-change-clause-later : goal.returns-in_err-change-clause-later
returns-in_err-change-clause-later g c = later g (goal.at.returns-in_err-change-clause-later g c).After-read_block

pub returns-in_err-change-clause-cause : goal.returns-in_err-change-clause-cause
returns-in_err-change-clause-cause g c =
    let before = (g.O.Outside.faults c.args.outside.now).disk in
    let mid = (g.O.Outside.faults c.loop-at.outside).disk in
    let now = (g.O.Outside.faults c.read_block.new.outside).disk in
    let p = err_from_is_err_and c.from_residual.result c.from_residual.ensures.1 in
    rw (p.1, p.2) (cause_so (Change × ℕ) (List Change) c.in_err-change.field-0.0 before mid now (disk_same g (goal.at.returns-in_err-change-clause-cause g c).After-read_block) c.in_err-change.ensures.cause)

pub returns-in_err-change-clause-faults_stay : goal.returns-in_err-change-clause-faults_stay
returns-in_err-change-clause-faults_stay g c =
    let before = (g.O.Outside.faults c.args.outside.now).disk in
    let mid = (g.O.Outside.faults c.loop-at.outside).disk in
    let now = (g.O.Outside.faults c.read_block.new.outside).disk in
    let p = err_from_is_err_and c.from_residual.result c.from_residual.ensures.1 in
    rw (p.1, p.2) (stay_so (Change × ℕ) (List Change) c.in_err-change.field-0.0 before mid now (disk_same g (goal.at.returns-in_err-change-clause-faults_stay g c).After-read_block) c.in_err-change.ensures.faults_stay)

-- ---- memory is wanting for it

pub returns-in_err-read-clause-after : goal.returns-in_err-read-clause-after
returns-in_err-read-clause-after g c =
    let p = err_from_is_err_and c.from_residual-in_err-read.result c.from_residual-in_err-read.ensures.1 in
    rw (p.1, p.2) (c.in_ok-change.ensures.after ∙ c.loop-at.invariant.same)

pub returns-in_err-read-clause-images : goal.returns-in_err-read-clause-images
returns-in_err-read-clause-images g c = less g (goal.at.returns-in_err-read-clause-images g c).After-read_block

pub returns-in_err-read-clause-any_moment : goal.returns-in_err-read-clause-any_moment
returns-in_err-read-clause-any_moment g c = run g (goal.at.returns-in_err-read-clause-any_moment g c).After-read_block

pub returns-in_err-read-clause-shown : goal.returns-in_err-read-clause-shown
returns-in_err-read-clause-shown g c = seen g (goal.at.returns-in_err-read-clause-shown g c).After-read_block

pub returns-in_err-read-clause-faults : goal.returns-in_err-read-clause-faults
returns-in_err-read-clause-faults g c = counts g (goal.at.returns-in_err-read-clause-faults g c).After-read_block

pub returns-in_err-read-clause-later : goal.returns-in_err-read-clause-later
returns-in_err-read-clause-later g c = later g (goal.at.returns-in_err-read-clause-later g c).After-read_block

pub returns-in_err-read-clause-faults_stay : goal.returns-in_err-read-clause-faults_stay
returns-in_err-read-clause-faults_stay g c =
    let p = err_from_is_err_and c.from_residual-in_err-read.result c.from_residual-in_err-read.ensures.1 in
    rw (p.1, p.2) (c.in_ok-change.ensures.faults_stay ∙ disk_same g (goal.at.returns-in_err-read-clause-faults_stay g c).After-read_block)

-- ---- all blocks are read

pub returns-clause-base : goal.returns-clause-base
returns-clause-base g c = λ told changes knows end.
    let so_far = c.loop-at.invariant in
    let past : c.args.keeper.now.log.end ≤ c.loop-at.at = omega (arith, c.loop-at-test.false, c.log_length.ensures, ap (λ (k : KeeperState). k.log.end) so_far.same) in
    c.into_changes.ensures changes (all_read c.loop-at.base changes c.loop-at.at c.args.keeper.now.log.end (so_far.read told changes knows end) end past)

pub returns-clause-images : goal.returns-clause-images
returns-clause-images g c = c.loop-at.invariant.images

pub returns-clause-any_moment : goal.returns-clause-any_moment
returns-clause-any_moment g c = c.loop-at.invariant.any_moment

pub returns-clause-faults : goal.returns-clause-faults
returns-clause-faults g c = counted_so (g.O.Outside.faults c.args.outside.now) (g.O.Outside.faults c.loop-at.outside) c.loop-at.invariant.faults

pub returns-clause-later : goal.returns-clause-later
returns-clause-later g c = let same = ap (λ (f : Faults). f.disk) c.loop-at.invariant.faults in omega (arith, same)

pub returns-clause-faults_stay : goal.returns-clause-faults_stay
returns-clause-faults_stay g c = ap (λ (f : Faults). f.disk) c.loop-at.invariant.faults
