use Rattle.std.proofs.Common.{◌∙◌, inl, List, sym, subst}
use Rattle.s80_change.specs.declared.change.Change.{Change}
use Rattle.s80_disk.specs.declared.disk.FileId.{FileId}
use Rattle.s80_disk.specs.Image.{Image, Only}
use Rattle.s80_disk.specs.Moments.{LeavesOnly}
use Rattle.s80_mark.specs.Commit.{HasEither}
use Rattle.s80_log.specs.Log.{log_file}
use Rattle.s80_log.specs.Commit.{Carries, Takes, LeavesBeside, ReadForEither, StandForEither}
use Rattle.s80_log.proofs.Files.{log_is_no_mark}
use Rattle.s80_log.proofs.Committing as committing
use Rattle.s80_log.proofs.log.Log.commit_by.Goals as goal
use Rattle.s80_log.proofs.log.Log.commit_by.Goals.{After-commit_mark}

-- ---- where the sync failed

pub returns-in_err-sync-clause-any_moment : goal.returns-in_err-sync-clause-any_moment
returns-in_err-sync-clause-any_moment g c =
    let D = g.D.Disk in
    let sync = c.sync.ensures in
    committing.either_synced D.moment D.left_since D.may_leave D.tells D.reads D.beside c.args.mark.now c.args.next.now c.args.disk.now c.sync.new.self sync.tells sync.same sync.crash sync.beside (g.met.D.Disk.only_now c.args.disk.now) sync.time

pub returns-in_err-sync-clause-crash : goal.returns-in_err-sync-clause-crash
returns-in_err-sync-clause-crash g c =
    let D = g.D.Disk in
    let sync = c.sync.ensures in
    committing.either_mid D.moment D.left_since D.may_leave D.tells D.reads D.beside c.args.mark.now c.args.next.now c.args.disk.now c.sync.new.self sync.tells sync.same sync.crash sync.beside

pub returns-in_err-sync-clause-stands : goal.returns-in_err-sync-clause-stands
returns-in_err-sync-clause-stands g c = λ kept all carries takes.
    let D = g.D.Disk in
    let sync = c.sync.ensures in
    committing.lists_synced D.moment D.left_since D.may_leave D.tells D.reads D.beside c.args.mark.now c.args.next.now c.args.disk.now c.sync.new.self sync.tells sync.same sync.crash sync.beside c.args.self.now kept all carries (g.met.D.Disk.only_now c.args.disk.now) sync.time

pub returns-in_err-sync-clause-left : goal.returns-in_err-sync-clause-left
returns-in_err-sync-clause-left g c = λ kept all e carries takes left.
    let D = g.D.Disk in
    let sync = c.sync.ensures in
    committing.lists_mid D.moment D.left_since D.may_leave D.tells D.reads D.beside c.args.mark.now c.args.next.now c.args.disk.now c.sync.new.self sync.tells sync.same sync.crash sync.beside c.args.self.now kept all carries e left

pub returns-in_err-sync-clause-reads : goal.returns-in_err-sync-clause-reads
returns-in_err-sync-clause-reads g c = λ kept all carries takes.
    let D = g.D.Disk in
    let sync = c.sync.ensures in
    inl (committing.reads_kept D.moment D.left_since D.may_leave D.tells D.reads D.beside c.args.mark.now c.args.next.now c.args.disk.now c.sync.new.self sync.tells sync.same sync.crash sync.beside c.args.self.now kept all carries)

-- ---- what the commit of the mark left

module _ (g : _) (c : After-commit_mark g) where
  -- a crash leaves the log as it reads
  durable : Only (log_file c.args.self.now.number) (g.D.Disk.reads c.args.disk.now (log_file c.args.self.now.number)) (g.D.Disk.may_leave c.sync.new.self)
  durable =
      let P : FileId → Type 0 = λ f. Only f (g.D.Disk.reads c.args.disk.now f) (g.D.Disk.may_leave c.sync.new.self) in
      subst P c.file.ensures c.in_ok-sync.ensures.durable

  any_moment : LeavesOnly g.D.Disk.moment g.D.Disk.left_since c.args.disk.now c.commit_mark.new.disk (HasEither (g.D.Disk.tells c.args.disk.now) (g.D.Disk.reads c.args.disk.now) (g.D.Disk.may_leave c.args.disk.now) (g.D.Disk.beside c.args.disk.now).told c.args.mark.now c.args.next.now)
  any_moment =
      let D = g.D.Disk in
      let sync = c.sync.ensures in
      committing.either_run D.moment D.left_since D.may_leave D.tells D.reads D.beside c.args.mark.now c.args.next.now c.args.disk.now c.sync.new.self sync.tells sync.same sync.crash sync.beside c.commit_mark.new.disk (g.met.D.Disk.only_now c.args.disk.now) sync.time c.commit_mark.ensures.any_moment

  crash : (e : Image) → g.D.Disk.may_leave c.commit_mark.new.disk e → HasEither (g.D.Disk.tells c.args.disk.now) (g.D.Disk.reads c.args.disk.now) (g.D.Disk.may_leave c.args.disk.now) (g.D.Disk.beside c.args.disk.now).told c.args.mark.now c.args.next.now (g.D.Disk.beside c.commit_mark.new.disk).told e
  crash e left =
      let D = g.D.Disk in
      let sync = c.sync.ensures in
      committing.either_on D.moment D.left_since D.may_leave D.tells D.reads D.beside c.args.mark.now c.args.next.now c.args.disk.now c.sync.new.self sync.tells sync.same sync.crash sync.beside _ e (c.commit_mark.ensures.left e left)

  module _ (kept all : List Change) (carries : Carries (g.D.Disk.tells c.args.disk.now) (g.D.Disk.reads c.args.disk.now) (g.D.Disk.may_leave c.args.disk.now) c.args.self.now c.args.mark.now kept all) (takes : Takes c.args.self.now all c.args.mark.now c.args.next.now) where
    stands : LeavesOnly g.D.Disk.moment g.D.Disk.left_since c.args.disk.now c.commit_mark.new.disk (LeavesBeside (g.D.Disk.may_leave c.args.disk.now) (g.D.Disk.beside c.args.disk.now).told (log_file c.args.self.now.number) (StandForEither c.args.mark.now kept c.args.next.now all))
    stands =
        let D = g.D.Disk in
        let sync = c.sync.ensures in
        committing.lists_run D.moment D.left_since D.may_leave D.tells D.reads D.beside c.args.mark.now c.args.next.now c.args.disk.now c.sync.new.self sync.tells sync.same sync.crash sync.beside c.args.self.now kept all carries takes durable c.commit_mark.new.disk (g.met.D.Disk.only_now c.args.disk.now) sync.time c.commit_mark.ensures.any_moment

    left : (e : Image) → g.D.Disk.may_leave c.commit_mark.new.disk e → LeavesBeside (g.D.Disk.may_leave c.args.disk.now) (g.D.Disk.beside c.args.disk.now).told (log_file c.args.self.now.number) (StandForEither c.args.mark.now kept c.args.next.now all) (g.D.Disk.beside c.commit_mark.new.disk).told e
    left e here =
        let D = g.D.Disk in
        let sync = c.sync.ensures in
        committing.lists_on D.moment D.left_since D.may_leave D.tells D.reads D.beside c.args.mark.now c.args.next.now c.args.disk.now c.sync.new.self sync.tells sync.same sync.crash sync.beside c.args.self.now kept all carries takes durable _ e (c.commit_mark.ensures.left e here)

    reads : ReadForEither (g.D.Disk.tells c.commit_mark.new.disk) (g.D.Disk.reads c.commit_mark.new.disk) (g.D.Disk.may_leave c.commit_mark.new.disk) c.args.mark.now kept c.args.next.now all
    reads =
        let D = g.D.Disk in
        let sync = c.sync.ensures in
        let new = c.commit_mark.new.disk in
        let same = c.commit_mark.ensures.tells in
        committing.reads_either D.moment D.left_since D.may_leave D.tells D.reads D.beside c.args.mark.now c.args.next.now c.args.disk.now c.sync.new.self sync.tells sync.same sync.crash sync.beside c.args.self.now kept all carries takes durable new same (g.met.D.Disk.reads_is_left new (same ∙ sync.tells ∙ carries.stands.told)) c.commit_mark.ensures.left

-- ---- where it failed

pub returns-in_err-commit_mark-clause-any_moment : goal.returns-in_err-commit_mark-clause-any_moment
returns-in_err-commit_mark-clause-any_moment g c = any_moment g (goal.at.returns-in_err-commit_mark-clause-any_moment g c).After-commit_mark

pub returns-in_err-commit_mark-clause-crash : goal.returns-in_err-commit_mark-clause-crash
returns-in_err-commit_mark-clause-crash g c = crash g (goal.at.returns-in_err-commit_mark-clause-crash g c).After-commit_mark

pub returns-in_err-commit_mark-clause-stands : goal.returns-in_err-commit_mark-clause-stands
returns-in_err-commit_mark-clause-stands g c = λ kept all carries takes. stands g (goal.at.returns-in_err-commit_mark-clause-stands g c).After-commit_mark kept all carries takes

pub returns-in_err-commit_mark-clause-left : goal.returns-in_err-commit_mark-clause-left
returns-in_err-commit_mark-clause-left g c = λ kept all e carries takes here. left g (goal.at.returns-in_err-commit_mark-clause-left g c).After-commit_mark kept all carries takes e here

pub returns-in_err-commit_mark-clause-reads : goal.returns-in_err-commit_mark-clause-reads
returns-in_err-commit_mark-clause-reads g c = λ kept all carries takes. reads g (goal.at.returns-in_err-commit_mark-clause-reads g c).After-commit_mark kept all carries takes

-- ---- where it succeeded

pub returns-clause-any_moment : goal.returns-clause-any_moment
returns-clause-any_moment g c = any_moment g (goal.at.returns-clause-any_moment g c).After-commit_mark

pub returns-clause-crash : goal.returns-clause-crash
returns-clause-crash g c = crash g (goal.at.returns-clause-crash g c).After-commit_mark

pub returns-clause-stands : goal.returns-clause-stands
returns-clause-stands g c = λ kept all carries takes. stands g (goal.at.returns-clause-stands g c).After-commit_mark kept all carries takes

pub returns-clause-left : goal.returns-clause-left
returns-clause-left g c = λ kept all e carries takes here. left g (goal.at.returns-clause-left g c).After-commit_mark kept all carries takes e here

pub returns-clause-reads : goal.returns-clause-reads
returns-clause-reads g c = λ kept all carries takes. reads g (goal.at.returns-clause-reads g c).After-commit_mark kept all carries takes

pub returns-clause-valid : goal.returns-clause-valid
returns-clause-valid g c = λ can.
    let D = g.D.Disk in
    let sync = c.sync.ensures in
    c.in_ok-commit_mark.ensures.committed (committing.can_on D.moment D.left_since D.may_leave D.tells D.reads D.beside c.args.mark.now c.args.next.now c.args.disk.now c.sync.new.self sync.tells sync.same sync.crash sync.beside can)

pub returns-clause-committed : goal.returns-clause-committed
returns-clause-committed g c = λ kept all carries takes.
    let D = g.D.Disk in
    let sync = c.sync.ensures in
    let done = c.commit_mark.ensures in
    let log_stays = durable g (goal.at.returns-clause-committed g c).After-commit_mark in
    committing.holds_all D.moment D.left_since D.may_leave D.tells D.reads D.beside c.args.mark.now c.args.next.now c.args.disk.now c.sync.new.self sync.tells sync.same sync.crash sync.beside c.args.self.now kept all carries takes log_stays c.commit_mark.new.disk done.tells
    (returns-clause-valid g c (committing.can D.moment D.left_since D.may_leave D.tells D.reads D.beside c.args.mark.now c.args.next.now c.args.disk.now c.sync.new.self sync.tells sync.same sync.crash sync.beside c.args.self.now kept all carries takes log_stays))
    c.in_ok-commit_mark.ensures.durable (done.others (log_file c.args.self.now.number) (λ e. log_is_no_mark c.args.self.now.number (sym e))) done.left
