use Rattle.std.proofs.Common.{◌-◌, [], List, refl, sym, ap, subst, None}
use Rattle.std.proofs.lemmas.Result.{err_from_is_err_and}
use Rattle.s80_change.specs.declared.change.Change.{Change}
use Rattle.s80_disk.specs.Image.{CutShort}
use Rattle.s80_disk.specs.Moments.{LeavesOnly}
use Rattle.s80_disk.proofs.lemmas.Run.{weaker}
use Rattle.s80_log.specs.Commit.{LeavesBeside}
use Rattle.s80_log.specs.Log.{LogEnd, log_file}
use Rattle.s80_log.specs.Standing.{FilesStandFor as StandByMark, StandsFor as StandsByMark}
use Rattle.s80_keeper.specs.Imaged.{KeepsImage}
use Rattle.s80_keeper.specs.Keeper.{KeeperState, Keeps}
use Rattle.s80_keeper.specs.Renewing.{HasWritten, IsBeside, IsElsewhere}
use Rattle.s80_keeper.specs.Standing.{LeavesFor}
use Rattle.s80_keeper.proofs.Elsewhere.{elsewhere_log}
use Rattle.s80_keeper.proofs.Keeping.{leaves_kept}
use Rattle.s80_keeper.proofs.Renewed.{begun_next}
use Rattle.s80_keeper.proofs.Written.{written_none}
use Rattle.s80_keeper.proofs.lemmas.Images.{keeps_behind}
use Rattle.s80_keeper.proofs.keeper.Keeper.begin_other.Goals as goal
use Rattle.s80_keeper.proofs.keeper.Keeper.begin_other.Goals.{After-begin_other}

module _ (g : _) (c : After-begin_other g) where
  -- the keeper as the code has it
  abbrev keeper : KeeperState
  keeper = record { log = c.self.inside.log; mark = c.self.inside.mark; system = c.self.inside.system; history = c.self.inside.history; count = c.self.inside.count; fault = c.self.inside.fault }

  others_stay : IsElsewhere g.D.Disk.tells g.D.Disk.reads g.D.Disk.may_leave g.D.Disk.moment g.D.Disk.left_since g.D.Disk.beside g.D.Disk.disk_faults (log_file (1 - c.args.self.now.log.number)) c.args.disk.now c.begin_other.new.disk
  others_stay =
      let D = g.D.Disk in
      let P : KeeperState → Type 0 = λ k. IsElsewhere D.tells D.reads D.may_leave D.moment D.left_since D.beside D.disk_faults (log_file (1 - k.log.number)) c.args.disk.now c.begin_other.new.disk in
      subst P c.self.view_is (elsewhere_log D.tells D.reads D.may_leave D.moment D.left_since D.beside D.disk_faults (log_file (1 - keeper.log.number)) (CutShort 0) c.args.disk.now c.begin_other.new.disk c.begin_other.ensures.tells c.begin_other.ensures.others c.begin_other.ensures.any_moment c.begin_other.ensures.beside c.begin_other.ensures.cause.later)

  module _ (kept : List Change) (keeps : Keeps (g.D.Disk.tells c.args.disk.now) (g.D.Disk.reads c.args.disk.now) (g.D.Disk.may_leave c.args.disk.now) c.args.self.now kept kept) where
    keeps_inside : Keeps (g.D.Disk.tells c.args.disk.now) (g.D.Disk.reads c.args.disk.now) (g.D.Disk.may_leave c.args.disk.now) keeper kept kept
    keeps_inside =
        let P : KeeperState → Type 0 = λ k. Keeps (g.D.Disk.tells c.args.disk.now) (g.D.Disk.reads c.args.disk.now) (g.D.Disk.may_leave c.args.disk.now) k kept kept in
        subst P (sym {b = c.args.self.now} c.self.view_is) keeps

    run : LeavesOnly g.D.Disk.moment g.D.Disk.left_since c.args.disk.now c.begin_other.new.disk (LeavesFor (g.D.Disk.beside c.args.disk.now).told kept)
    run =
        let D = g.D.Disk in
        let d = c.args.disk.now in
        let was = keeps_inside in
        let file = log_file (1 - keeper.log.number) in
        weaker D.moment D.left_since d c.begin_other.new.disk (LeavesBeside (D.may_leave d) (D.beside d).told file (λ e. StandByMark e keeper.mark kept)) (LeavesFor (D.beside d).told kept) (c.begin_other.ensures.stands keeper.mark kept was.holds.stands was.holds.named)
        (leaves_kept (D.reads d) (D.may_leave d) (D.beside d).told (1 - keeper.log.number) keeper.mark kept was.image was.built)

    image_then : KeepsImage (g.D.Disk.reads c.begin_other.new.disk) (g.D.Disk.may_leave c.begin_other.new.disk) keeper.mark kept
    image_then =
        let D = g.D.Disk in
        let d = c.args.disk.now in
        let new = c.begin_other.new.disk in
        let was = keeps_inside in
        keeps_behind D.reads D.may_leave D.moment D.left_since D.beside d new (1 - keeper.log.number) (g.met.D.Disk.counts_now new) keeper.mark kept (λ e. StandByMark e keeper.mark kept) (λ other no_mark no_log. c.begin_other.ensures.others other no_log) (c.begin_other.ensures.stands keeper.mark kept was.holds.stands was.holds.named) was.image

    -- by the mark that the keeper has
    stands_now : StandsByMark (g.D.Disk.tells c.begin_other.new.disk) (g.D.Disk.reads c.begin_other.new.disk) (g.D.Disk.may_leave c.begin_other.new.disk) keeper.mark kept → StandsByMark (g.D.Disk.tells c.begin_other.new.disk) (g.D.Disk.reads c.begin_other.new.disk) (g.D.Disk.may_leave c.begin_other.new.disk) c.args.self.now.mark kept
    stands_now =
        let Stands : KeeperState → Type 0 = λ k. StandsByMark (g.D.Disk.tells c.begin_other.new.disk) (g.D.Disk.reads c.begin_other.new.disk) (g.D.Disk.may_leave c.begin_other.new.disk) k.mark kept in
        subst Stands c.self.view_is

pub returns-in_err-log-clause-elsewhere : goal.returns-in_err-log-clause-elsewhere
returns-in_err-log-clause-elsewhere g c = others_stay g (goal.at.returns-in_err-log-clause-elsewhere g c).After-begin_other

pub returns-in_err-boot-clause-elsewhere : goal.returns-in_err-boot-clause-elsewhere
returns-in_err-boot-clause-elsewhere g c = others_stay g (goal.at.returns-in_err-boot-clause-elsewhere g c).After-begin_other

pub returns-clause-elsewhere : goal.returns-clause-elsewhere
returns-clause-elsewhere g c = others_stay g (goal.at.returns-clause-elsewhere g c).After-begin_other

pub returns-in_err-log-clause-begun : goal.returns-in_err-log-clause-begun
returns-in_err-log-clause-begun g c = λ kept keeps.
    let at = (goal.at.returns-in_err-log-clause-begun g c).After-begin_other in
    let was = keeps_inside g at kept keeps in
    let p = err_from_is_err_and c.from_residual.result c.from_residual.ensures.1 in
    (run g at kept keeps, rw (p.1, p.2) (stands_now g at kept keeps (c.in_err-log.ensures.begun (keeper g at).mark kept was.holds.stands was.holds.named)))

pub returns-in_err-boot-clause-begun : goal.returns-in_err-boot-clause-begun
returns-in_err-boot-clause-begun g c = λ kept keeps.
    let at = (goal.at.returns-in_err-boot-clause-begun g c).After-begin_other in
    let was = keeps_inside g at kept keeps in
    let p = err_from_is_err_and c.from_residual-in_err-boot.result c.from_residual-in_err-boot.ensures.1 in
    (run g at kept keeps, rw (p.1, p.2) (stands_now g at kept keeps (c.in_ok-log.ensures.begun (keeper g at).mark kept was.holds.stands was.holds.named).stands))

pub returns-clause-begun : goal.returns-clause-begun
returns-clause-begun g c = λ kept keeps.
    let D = g.D.Disk in
    let new = c.begin_other.new.disk in
    let at = (goal.at.returns-clause-begun g c).After-begin_other in
    let was = keeps_inside g at kept keeps in
    let Begun : KeeperState → Type 0 = λ k. IsBeside (D.tells new) (D.reads new) (D.may_leave new) k kept [] in
    let made : KeeperState = record { log = c.in_ok-log.log; mark = c.self.inside.mark; system = c.in_ok-boot.field-0; history = c.empty.result; count = 0; fault = None } in
    let begun : Begun made = record {
      holds = c.in_ok-log.ensures.begun (keeper g at).mark kept was.holds.stands was.holds.named;
      image = image_then g at kept keeps;
      kept_built = was.built;
      made = record { built = tt; system = c.in_ok-boot.ensures.state; places = c.in_ok-boot.ensures.places; history = c.empty.ensures.of; count = refl };
      faultless = refl;
    } in
    (run g at kept keeps, subst Begun {x = made} (sym {a = c.at.result} {b = made} c.at.ensures) begun)

pub returns-clause-written : goal.returns-clause-written
returns-clause-written g c =
    let D = g.D.Disk in
    let new = c.begin_other.new.disk in
    let Begun : KeeperState → Type 0 = λ k. HasWritten (D.tells new) (D.reads new) k [] in
    let made : KeeperState = record { log = c.in_ok-log.log; mark = c.self.inside.mark; system = c.in_ok-boot.field-0; history = c.empty.result; count = 0; fault = None } in
    let begun : Begun made = written_none (D.tells new) (D.reads new) made (record { built = tt; system = c.in_ok-boot.ensures.state; places = c.in_ok-boot.ensures.places; history = c.empty.ensures.of; count = refl }) (ap (λ (l : LogEnd). l.end) c.in_ok-log.ensures.log) in
    subst Begun {x = made} (sym {a = c.at.result} {b = made} c.at.ensures) begun

pub returns-clause-next : goal.returns-clause-next
returns-clause-next g c =
    begun_next (keeper g (goal.at.returns-clause-next g c).After-begin_other) c.args.self.now c.at.result c.in_ok-log.log _ _ c.self.view_is c.in_ok-log.ensures.log c.at.ensures
