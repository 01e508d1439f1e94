use Rattle.std.proofs.Common.{◌≡◌, ◌+◌, ℕ, List, length, IsTrue, ap, ◌∙◌, rules, tests, refl}
use Rattle.std.proofs.lemmas.Result.{err_from_is_err_and}
use Rattle.s80_change.specs.declared.change.Change.{Change}
use Rattle.s80_disk.specs.Image.{Image, Torn, OnFile, Follows}
use Rattle.s80_disk.specs.Moments.{Beside, LeavesOnly}
use Rattle.s80_disk.proofs.lemmas.Run.{started, goes_on}
use Rattle.s80_disk.proofs.Steps.{comes}
use Rattle.s80_mark.specs.declared.mark.MarkState.{MarkState}
use Rattle.s80_log.specs.Log.{LogEnd, log_file}
use Rattle.s80_log.specs.Standing.{marked_part, FilesStandFor}
use Rattle.s80_log.specs.Commit.{Carries, LeavesBeside}
use Rattle.s80_log.proofs.Files.{log_is_no_mark}
use Rattle.s80_log.proofs.Staying.{carried, carried_beside, still_stands, moment_stands}
use Rattle.s80_log.proofs.Appending.{step_on, follows_on, wrote_on, part_stays, holds_still, holds_more, part_stays_beside, beside_still, beside_more}
use Rattle.s80_log.proofs.log.Log.append.Goals as goal
use Rattle.s80_log.proofs.log.Log.append.Goals.{After-write_at}

-- the log's file after the write, and every image of then
stepped : (g : _) (c : After-write_at g) → IsTrue (g.D.Disk.tells c.args.disk.now) → OnFile (log_file c.args.self.now.number) (Torn c.args.self.now.end (length c.bytes-bytes.result.now)) (g.D.Disk.reads c.args.disk.now) (g.D.Disk.reads c.write_at.new.self)
stepped g c told =
    step_on c.args.self.now _ c.file.result _ _ _ c.self.view_is c.file.ensures record { here = c.write_at.ensures.torn told; others = c.write_at.ensures.others }

followed : (g : _) (c : After-write_at g) → Follows (log_file c.args.self.now.number) (Torn c.args.self.now.end (length c.bytes-bytes.result.now)) (g.D.Disk.may_leave c.args.disk.now) (g.D.Disk.may_leave c.write_at.new.self)
followed g c = follows_on c.args.self.now _ c.file.result _ _ _ c.self.view_is c.file.ensures c.write_at.ensures.crash

-- every moment of the write, where it leaves the marked part
module _ (g : _) (c : After-write_at g) (mark : MarkState) (kept all : List Change) (carries : Carries (g.D.Disk.tells c.args.disk.now) (g.D.Disk.reads c.args.disk.now) (g.D.Disk.may_leave c.args.disk.now) c.args.self.now mark kept all) (stays : (d e : Image) → FilesStandFor d mark kept → OnFile (log_file c.args.self.now.number) (Torn c.args.self.now.end (length c.bytes-bytes.result.now)) d e → marked_part mark e ≡ marked_part mark d) where
  abbrev P : ℕ → Image → Type 0
  P = LeavesBeside (g.D.Disk.may_leave c.args.disk.now) (g.D.Disk.beside c.args.disk.now).told (log_file c.args.self.now.number) (λ d. FilesStandFor d mark kept)

  run : LeavesOnly g.D.Disk.moment g.D.Disk.left_since c.args.disk.now c.write_at.new.self P
  run =
      let D = g.D.Disk in
      let d = c.args.disk.now in
      let new = c.write_at.new.self in
      let file = log_file c.args.self.now.number in
      goes_on D.moment D.left_since D.may_leave D.beside d d new P (started D.moment D.left_since d P (λ told e left. still_stands (D.tells d) (D.reads d) (D.may_leave d) mark kept file carries.stands _ told e (g.met.D.Disk.only_now d told e left)))
      c.write_at.ensures.time
      (λ e left. moment_stands (D.tells d) (D.reads d) (D.may_leave d) mark kept file carries.stands (Torn c.args.self.now.end (length c.bytes-bytes.result.now)) (log_is_no_mark c.args.self.now.number) stays _ _ e (comes _ _ (D.may_leave d) (D.may_leave new) _ _ (ap (λ (b : Beside). b.told) c.write_at.ensures.beside) (followed g c) e left))

-- ---- while this log counts

pub returns-then-not-has_room-clause-stands : goal.returns-then-not-has_room-clause-stands
returns-then-not-has_room-clause-stands g c = λ mark kept all holds.
    let D = g.D.Disk in
    let d = c.args.disk.now in
    started D.moment D.left_since d _ (λ told e left. still_stands (D.tells d) (D.reads d) (D.may_leave d) mark kept (log_file c.args.self.now.number) holds.stands _ told e (g.met.D.Disk.only_now d told e left))

pub returns-in_err-write_at-clause-holds : goal.returns-in_err-write_at-clause-holds
returns-in_err-write_at-clause-holds g c = λ mark kept all change holds lawful is.
    let p = err_from_is_err_and c.from_residual.result c.from_residual.ensures.1 in
    let at = (goal.at.returns-in_err-write_at-clause-holds g c).After-write_at in
    rw p.1 (holds_still (g.D.Disk.tells c.args.disk.now) (g.D.Disk.reads c.args.disk.now) (g.D.Disk.may_leave c.args.disk.now) c.args.self.now mark kept all _ holds _ _ _ c.write_at.ensures.tells (stepped g at holds.stands.told) (followed g at))

pub returns-in_err-write_at-clause-stands : goal.returns-in_err-write_at-clause-stands
returns-in_err-write_at-clause-stands g c = λ mark kept all holds. run g (goal.at.returns-in_err-write_at-clause-stands g c).After-write_at mark kept all (carried holds) (part_stays _ _ _ _ _ _ _ _ holds)

pub returns-clause-holds : goal.returns-clause-holds
returns-clause-holds g c = λ mark kept all change holds lawful is.
    let at = (goal.at.returns-clause-holds g c).After-write_at in
    let n = length c.bytes-bytes.result.now in
    let same = c.self.view_is in
    holds_more (g.D.Disk.tells c.args.disk.now) (g.D.Disk.reads c.args.disk.now) (g.D.Disk.may_leave c.args.disk.now) c.args.self.now mark kept all n holds change c.bytes-bytes.result.now _ _ _ _
    (ap (λ (l : LogEnd). let r : LogEnd = record l { end = l.end + n } in r) same) lawful (c.bytes-bytes.ensures ∙ is) refl (search (rules, tests)) c.write_at.ensures.tells (stepped g at holds.stands.told)
    (wrote_on c.args.self.now _ c.file.result _ (g.D.Disk.reads c.args.disk.now) (g.D.Disk.reads c.write_at.new.self) same c.file.ensures (c.in_ok-write_at.ensures.written holds.stands.told)) (followed g at)

pub returns-clause-stands : goal.returns-clause-stands
returns-clause-stands g c = λ mark kept all holds. run g (goal.at.returns-clause-stands g c).After-write_at mark kept all (carried holds) (part_stays _ _ _ _ _ _ _ _ holds)

-- ---- while the other one counts

pub returns-then-not-has_room-clause-stands_beside : goal.returns-then-not-has_room-clause-stands_beside
returns-then-not-has_room-clause-stands_beside g c = λ mark kept all holds.
    let D = g.D.Disk in
    let d = c.args.disk.now in
    started D.moment D.left_since d _ (λ told e left. still_stands (D.tells d) (D.reads d) (D.may_leave d) mark kept (log_file c.args.self.now.number) holds.stands _ told e (g.met.D.Disk.only_now d told e left))

pub returns-in_err-write_at-clause-holds_beside : goal.returns-in_err-write_at-clause-holds_beside
returns-in_err-write_at-clause-holds_beside g c = λ mark kept all change holds lawful is.
    let p = err_from_is_err_and c.from_residual.result c.from_residual.ensures.1 in
    let at = (goal.at.returns-in_err-write_at-clause-holds_beside g c).After-write_at in
    rw p.1 (beside_still (g.D.Disk.tells c.args.disk.now) (g.D.Disk.reads c.args.disk.now) (g.D.Disk.may_leave c.args.disk.now) c.args.self.now mark kept all _ holds _ _ _ c.write_at.ensures.tells (stepped g at holds.stands.told) (followed g at))

pub returns-in_err-write_at-clause-stands_beside : goal.returns-in_err-write_at-clause-stands_beside
returns-in_err-write_at-clause-stands_beside g c = λ mark kept all holds. run g (goal.at.returns-in_err-write_at-clause-stands_beside g c).After-write_at mark kept all (carried_beside holds) (part_stays_beside _ _ _ _ _ _ _ _ holds)

pub returns-clause-holds_beside : goal.returns-clause-holds_beside
returns-clause-holds_beside g c = λ mark kept all change holds lawful is.
    let at = (goal.at.returns-clause-holds_beside g c).After-write_at in
    let n = length c.bytes-bytes.result.now in
    let same = c.self.view_is in
    beside_more (g.D.Disk.tells c.args.disk.now) (g.D.Disk.reads c.args.disk.now) (g.D.Disk.may_leave c.args.disk.now) c.args.self.now mark kept all n holds change c.bytes-bytes.result.now _ _ _ _
    (ap (λ (l : LogEnd). let r : LogEnd = record l { end = l.end + n } in r) same) lawful (c.bytes-bytes.ensures ∙ is) refl (search (rules, tests)) c.write_at.ensures.tells (stepped g at holds.stands.told)
    (wrote_on c.args.self.now _ c.file.result _ (g.D.Disk.reads c.args.disk.now) (g.D.Disk.reads c.write_at.new.self) same c.file.ensures (c.in_ok-write_at.ensures.written holds.stands.told)) (followed g at)

pub returns-clause-stands_beside : goal.returns-clause-stands_beside
returns-clause-stands_beside g c = λ mark kept all holds. run g (goal.at.returns-clause-stands_beside g c).After-write_at mark kept all (carried_beside holds) (part_stays_beside _ _ _ _ _ _ _ _ holds)
