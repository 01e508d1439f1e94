use Rattle.std.proofs.Common.{◌≡◌, ◌-◌, ◌≤◌, ℕ, List, IsTrue, ap, ◌∙◌, subst}
use Rattle.std.proofs.lemmas.Result.{err_from_is_err_and}
use Rattle.s80_change.specs.declared.change.Change.{Change}
use Rattle.s80_disk.specs.declared.disk.FileId.{FileId}
use Rattle.s80_disk.specs.Image.{Image, CutShort, OnFile, Follows}
use Rattle.s80_disk.specs.Moments.{Beside, LeavesOnly}
use Rattle.s80_disk.proofs.lemmas.Run.{started, goes_on}
use Rattle.s80_disk.proofs.Steps.{comes}
use Rattle.s80_mark.specs.declared.mark.MarkState.{MarkState}
use Rattle.s80_log.specs.Log.{LogEnd, log_file}
use Rattle.s80_log.specs.Standing.{FilesStandFor, StandsFor}
use Rattle.s80_log.specs.Commit.{LeavesBeside}
use Rattle.s80_log.proofs.Files.{log_is_no_mark}
use Rattle.s80_log.proofs.Staying.{still_stands, moment_stands, disk_stands}
use Rattle.s80_log.proofs.Beginning.{cut_elsewhere, begun}
use Rattle.s80_log.proofs.log.Log.begin_other.Goals as goal
use Rattle.s80_log.proofs.log.Log.begin_other.Goals.{After-cut}

module _ (g : _) (c : After-cut g) where
  abbrev other : FileId
  other = log_file (1 - c.args.self.now.number)

  same_file : c.file.result ≡ other
  same_file = c.file.ensures ∙ ap (λ (l : LogEnd). log_file (1 - l.number)) c.self.view_is

  within : c.args.self.now.number ≤ 1
  within = let P : LogEnd → Type 0 = λ l. l.number ≤ 1 in subst P c.self.view_is c.self.invariant

  -- the other log's file after the cut, and every image of then
  stepped : IsTrue (g.D.Disk.tells c.args.disk.now) → OnFile other (CutShort 0) (g.D.Disk.reads c.args.disk.now) (g.D.Disk.reads c.cut.new.self)
  stepped told =
      let P : FileId → Type 0 = λ f. OnFile f (CutShort 0) (g.D.Disk.reads c.args.disk.now) (g.D.Disk.reads c.cut.new.self) in
      subst P same_file record { here = c.cut.ensures.torn told; others = c.cut.ensures.others }

  followed : Follows other (CutShort 0) (g.D.Disk.may_leave c.args.disk.now) (g.D.Disk.may_leave c.cut.new.self)
  followed =
      let P : FileId → Type 0 = λ f. Follows f (CutShort 0) (g.D.Disk.may_leave c.args.disk.now) (g.D.Disk.may_leave c.cut.new.self) in
      subst P same_file c.cut.ensures.crash

  module _ (mark : MarkState) (kept : List Change) (stands : StandsFor (g.D.Disk.tells c.args.disk.now) (g.D.Disk.reads c.args.disk.now) (g.D.Disk.may_leave c.args.disk.now) mark kept) (named : mark.log ≡ c.args.self.now.number) where
    still : StandsFor (g.D.Disk.tells c.cut.new.self) (g.D.Disk.reads c.cut.new.self) (g.D.Disk.may_leave c.cut.new.self) mark kept
    still =
        let D = g.D.Disk in
        let d = c.args.disk.now in
        disk_stands (D.tells d) (D.reads d) (D.may_leave d) mark kept other stands (CutShort 0) (log_is_no_mark (1 - c.args.self.now.number)) (cut_elsewhere mark kept c.args.self.now.number named within) _ _ _ c.cut.ensures.tells (stepped stands.told) followed

    abbrev P : ℕ → Image → Type 0
    P = LeavesBeside (g.D.Disk.may_leave c.args.disk.now) (g.D.Disk.beside c.args.disk.now).told other (λ d. FilesStandFor d mark kept)

    run : LeavesOnly g.D.Disk.moment g.D.Disk.left_since c.args.disk.now c.cut.new.self P
    run =
        let D = g.D.Disk in
        let d = c.args.disk.now in
        let new = c.cut.new.self in
        goes_on D.moment D.left_since D.may_leave D.beside d d new P (started D.moment D.left_since d P (λ told e left. still_stands (D.tells d) (D.reads d) (D.may_leave d) mark kept other stands _ told e (g.met.D.Disk.only_now d told e left)))
        c.cut.ensures.time
        (λ e left. moment_stands (D.tells d) (D.reads d) (D.may_leave d) mark kept other stands (CutShort 0) (log_is_no_mark (1 - c.args.self.now.number)) (cut_elsewhere mark kept c.args.self.now.number named within) _ _ e (comes _ _ (D.may_leave d) (D.may_leave new) _ _ (ap (λ (b : Beside). b.told) c.cut.ensures.beside) followed e left))

pub returns-in_err-cut-clause-begun : goal.returns-in_err-cut-clause-begun
returns-in_err-cut-clause-begun g c = λ mark kept stands named.
    let p = err_from_is_err_and c.from_residual.result c.from_residual.ensures.1 in
    rw p.1 (still g (goal.at.returns-in_err-cut-clause-begun g c).After-cut mark kept stands named)

pub returns-in_err-cut-clause-stands : goal.returns-in_err-cut-clause-stands
returns-in_err-cut-clause-stands g c = λ mark kept stands named. run g (goal.at.returns-in_err-cut-clause-stands g c).After-cut mark kept stands named

pub returns-clause-begun : goal.returns-clause-begun
returns-clause-begun g c = λ mark kept stands named.
    let at = (goal.at.returns-clause-begun g c).After-cut in
    begun mark kept c.args.self.now.number named (within g at) _ _ _ _ (ap (λ (l : LogEnd). let r : LogEnd = record { number = 1 - l.number; end = 0 } in r) c.self.view_is) (still g at mark kept stands named)

pub returns-clause-stands : goal.returns-clause-stands
returns-clause-stands g c = λ mark kept stands named. run g (goal.at.returns-clause-stands g c).After-cut mark kept stands named
