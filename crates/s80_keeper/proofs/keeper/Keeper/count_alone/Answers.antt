use Rattle.std.proofs.Common.{List, sym, ap, ◌∙◌, subst}
use Rattle.std.proofs.lemmas.Result.{err_from_is_err_and}
use Rattle.s80_change.specs.declared.change.Change.{Change}
use Rattle.s80_disk.specs.Moments.{LeavesOnly}
use Rattle.s80_disk.proofs.lemmas.Run.{weaker}
use Rattle.s80_mark.specs.declared.mark.MarkState.{MarkState}
use Rattle.s80_log.specs.Log.{LogEnd, log_file}
use Rattle.s80_log.specs.Commit.{LeavesBeside, StandForEither, fresh_mark}
use Rattle.s80_keeper.specs.Imaged.{KeepsImage}
use Rattle.s80_keeper.specs.Keeper.{KeeperState}
use Rattle.s80_keeper.specs.Renewing.{HasWritten, IsBeside, IsElsewhere}
use Rattle.s80_keeper.specs.Standing.{LeavesEither, ReadsForEither}
use Rattle.s80_keeper.proofs.Elsewhere.{elsewhere_mark}
use Rattle.s80_keeper.proofs.Keeping.{either_list, leaves_either, reads_either}
use Rattle.s80_keeper.proofs.Renewed.{keeps_alone}
use Rattle.s80_keeper.proofs.Written.{written_alone}
use Rattle.s80_keeper.proofs.lemmas.Images.{keeps_beside, keeps_fresh}
use Rattle.s80_keeper.proofs.keeper.Keeper.count_alone.Goals as goal
use Rattle.s80_keeper.proofs.keeper.Keeper.count_alone.Goals.{After-commit_alone}

module _ (g : _) (c : After-commit_alone g) where
  -- the keeper as the code has it
  abbrev keeper : KeeperState
  keeper = record { log = c.self.inside.log; mark = c.self.inside.mark; system = c.self.inside.system; history = c.self.inside.history; count = c.self.inside.count; fault = c.self.inside.fault }

  -- the mark that is committed
  abbrev fresh : MarkState
  fresh = fresh_mark c.self.inside.mark c.self.inside.log c.self.inside.count

  others_stay : IsElsewhere g.D.Disk.tells g.D.Disk.reads g.D.Disk.may_leave g.D.Disk.moment g.D.Disk.left_since g.D.Disk.beside g.D.Disk.disk_faults (log_file c.args.self.now.log.number) c.args.disk.now c.commit_alone.new.disk
  others_stay =
      let D = g.D.Disk in
      elsewhere_mark D.tells D.reads D.may_leave D.moment D.left_since D.beside D.disk_faults (log_file c.args.self.now.log.number) c.self.inside.mark fresh c.args.disk.now c.commit_alone.new.disk c.commit_alone.ensures.tells c.commit_alone.ensures.others c.commit_alone.ensures.any_moment c.commit_alone.ensures.beside c.commit_alone.ensures.cause.later

  module _ (kept all : List Change) (beside : IsBeside (g.D.Disk.tells c.args.disk.now) (g.D.Disk.reads c.args.disk.now) (g.D.Disk.may_leave c.args.disk.now) c.args.self.now kept all) where
    beside_inside : IsBeside (g.D.Disk.tells c.args.disk.now) (g.D.Disk.reads c.args.disk.now) (g.D.Disk.may_leave c.args.disk.now) keeper kept all
    beside_inside =
        let P : KeeperState → Type 0 = λ k. IsBeside (g.D.Disk.tells c.args.disk.now) (g.D.Disk.reads c.args.disk.now) (g.D.Disk.may_leave c.args.disk.now) k kept all in
        subst P (sym c.self.view_is) beside

    -- the mark that is committed names none
    fresh_image : KeepsImage (g.D.Disk.reads c.args.disk.now) (g.D.Disk.may_leave c.args.disk.now) fresh all
    fresh_image = keeps_fresh (g.D.Disk.reads c.args.disk.now) (g.D.Disk.may_leave c.args.disk.now) c.self.inside.mark all c.self.inside.log c.self.inside.count

    image_then : KeepsImage (g.D.Disk.reads c.commit_alone.new.disk) (g.D.Disk.may_leave c.commit_alone.new.disk) c.self.inside.mark kept
    image_then =
        let D = g.D.Disk in
        let d = c.args.disk.now in
        let new = c.commit_alone.new.disk in
        let was = beside_inside in
        let mark = c.self.inside.mark in
        keeps_beside (D.reads d) (D.may_leave d) c.self.inside.log.number mark kept was.image (D.beside d).told (D.beside new).told (StandForEither mark kept fresh all) (D.reads new) (D.may_leave new) (λ other no_mark no_log. c.commit_alone.ensures.others other no_mark) (λ e left. c.commit_alone.ensures.left kept all e was.holds was.made.count left)

    fresh_then : KeepsImage (g.D.Disk.reads c.commit_alone.new.disk) (g.D.Disk.may_leave c.commit_alone.new.disk) fresh all
    fresh_then = keeps_fresh (g.D.Disk.reads c.commit_alone.new.disk) (g.D.Disk.may_leave c.commit_alone.new.disk) c.self.inside.mark all c.self.inside.log c.self.inside.count

    run : LeavesOnly g.D.Disk.moment g.D.Disk.left_since c.args.disk.now c.commit_alone.new.disk (LeavesEither (g.D.Disk.beside c.args.disk.now).told kept all)
    run =
        let D = g.D.Disk in
        let d = c.args.disk.now in
        let was = beside_inside in
        let file = log_file c.self.inside.log.number in
        weaker D.moment D.left_since d c.commit_alone.new.disk (LeavesBeside (D.may_leave d) (D.beside d).told file (StandForEither c.self.inside.mark kept fresh all)) (LeavesEither (D.beside d).told kept all) (c.commit_alone.ensures.stands kept all was.holds was.made.count)
        (leaves_either (D.reads d) (D.may_leave d) c.self.inside.mark fresh kept all was.image fresh_image was.kept_built was.made.built (D.beside d).told c.self.inside.log.number)

    broke_off : ReadsForEither (g.D.Disk.tells c.commit_alone.new.disk) (g.D.Disk.reads c.commit_alone.new.disk) (g.D.Disk.may_leave c.commit_alone.new.disk) kept all
    broke_off =
        let D = g.D.Disk in
        let d = c.args.disk.now in
        let new = c.commit_alone.new.disk in
        let was = beside_inside in
        let mark = c.self.inside.mark in
        record {
          stands = reads_either (D.tells new) (D.reads new) (D.may_leave new) mark fresh kept all image_then fresh_then was.kept_built was.made.built (c.commit_alone.ensures.reads kept all was.holds was.made.count);
          images = λ e left. either_list (D.reads d) (D.may_leave d) mark fresh kept all was.image fresh_image was.kept_built was.made.built (D.beside d).told c.self.inside.log.number (D.beside new).told e (c.commit_alone.ensures.left kept all e was.holds was.made.count left);
        }

pub returns-in_err-commit_alone-clause-elsewhere : goal.returns-in_err-commit_alone-clause-elsewhere
returns-in_err-commit_alone-clause-elsewhere g c = others_stay g (goal.at.returns-in_err-commit_alone-clause-elsewhere g c).After-commit_alone

pub returns-clause-elsewhere : goal.returns-clause-elsewhere
returns-clause-elsewhere g c = others_stay g (goal.at.returns-clause-elsewhere g c).After-commit_alone

pub returns-in_err-commit_alone-clause-counted : goal.returns-in_err-commit_alone-clause-counted
returns-in_err-commit_alone-clause-counted g c = λ kept all beside.
    let at = (goal.at.returns-in_err-commit_alone-clause-counted g c).After-commit_alone in
    let p = err_from_is_err_and c.from_residual.result c.from_residual.ensures.1 in
    (run g at kept all beside, rw (p.1, p.2) (broke_off g at kept all beside))

pub returns-clause-counted : goal.returns-clause-counted
returns-clause-counted g c = λ kept all beside.
    let D = g.D.Disk in
    let d = c.args.disk.now in
    let new = c.commit_alone.new.disk in
    let at = (goal.at.returns-clause-counted g c).After-commit_alone in
    let was = beside_inside g at kept all beside in
    let done = c.in_ok-commit_alone.ensures in
    let Imaged : MarkState → Type 0 = λ m. KeepsImage (D.reads new) (D.may_leave new) m all in (
      run g at kept all beside,
      keeps_alone (D.tells new) (D.reads new) (D.may_leave new) (D.tells d) (D.reads d) (D.may_leave d) (keeper g at) kept all c.commit_alone.new.self c.commit_alone.new.mark (subst Imaged (sym done.mark) (fresh_then g at kept all beside)) was (done.committed kept all was.holds was.made.count),
    )

pub returns-clause-alone : goal.returns-clause-alone
returns-clause-alone g c =
    let same = c.commit_alone.ensures.same in
    let done = c.in_ok-commit_alone.ensures in
    record {
      log = ap (λ (l : LogEnd). l.number) same ∙ ap (λ (k : KeeperState). k.log.number) c.self.view_is;
      mark = done.mark ∙ (λ i. fresh_mark (c.self.view_is i).mark (sym same i) c.self.inside.count);
      fault = ap (λ (k : KeeperState). k.fault) c.self.view_is;
    }

pub returns-clause-written : goal.returns-clause-written
returns-clause-written g c = λ all written.
    let D = g.D.Disk in
    let d = c.args.disk.now in
    let new = c.commit_alone.new.disk in
    let at = (goal.at.returns-clause-written g c).After-commit_alone in
    let Had : KeeperState → Type 0 = λ k. HasWritten (D.tells d) (D.reads d) k all in
    written_alone (D.tells new) (D.tells d) (D.reads new) (D.reads d) (keeper g at) all c.commit_alone.new.self c.commit_alone.new.mark c.commit_alone.ensures.tells c.commit_alone.ensures.others c.commit_alone.ensures.same (subst Had (sym c.self.view_is) written)
