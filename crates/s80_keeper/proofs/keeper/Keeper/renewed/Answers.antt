use Rattle.std.proofs.Common.{◌-◌, [], ℕ, List, ap, subst}
use Rattle.std.proofs.lemmas.Result.{err_from_is_err_and}
use Rattle.s80_change.specs.declared.change.Change.{Change}
use Rattle.s80_change.specs.Block.{IsList}
use Rattle.s80_disk.specs.Moments.{Beside, LeavesOnly}
use Rattle.s80_apply.specs.List.{IsBuilt}
use Rattle.s80_log.specs.Log.{log_file}
use Rattle.s80_log.specs.Standing.{StandsFor as StandsByMark}
use Rattle.s80_mark.specs.declared.mark.MarkState.{MarkState}
use Rattle.s80_keeper.specs.Keeper.{KeeperState, Keeps}
use Rattle.s80_keeper.specs.Renewing.{HasWritten, IsBeside, IsElsewhere}
use Rattle.s80_keeper.specs.Standing.{LeavesEither, ReadsForEither}
use Rattle.s80_keeper.proofs.Elsewhere.{elsewhere_then}
use Rattle.s80_keeper.proofs.Renewed.{failed_so, moved_after, stands_for_either, still_keeps}
use Rattle.s80_keeper.proofs.Together.{either_stands, stands_either}
use Rattle.s80_keeper.proofs.Written.{unwritten}
use Rattle.s80_keeper.proofs.lemmas.Images.{keeps_elsewhere}
use Rattle.s80_keeper.proofs.keeper.Keeper.renewed.Goals as goal
use Rattle.s80_keeper.proofs.keeper.Keeper.renewed.Goals.{After-fill}

-- ---- where none is begun

pub returns-in_err-next-clause-renewed : goal.returns-in_err-next-clause-renewed
returns-in_err-next-clause-renewed g c = λ kept keeps list built.
    let D = g.D.Disk in
    let d = c.args.disk.now in
    let new = c.begin_other.new.disk in
    let all = c.args.changes.now in
    let keeper = c.args.self.now in
    let Stands = StandsByMark (D.tells new) (D.reads new) (D.may_leave new) keeper.mark kept in
    let Either = ReadsForEither (D.tells new) (D.reads new) (D.may_leave new) kept all in
    let Still = Keeps (D.tells new) (D.reads new) (D.may_leave new) keeper kept kept in
    let run = c.in_err-next.ensures.begun kept keeps in
    let image = keeps_elsewhere D.reads D.may_leave D.moment D.left_since D.beside d new (1 - keeper.log.number) (g.met.D.Disk.counts_now new) keeper.mark kept D.tells D.disk_faults c.begin_other.ensures.elsewhere keeps.image in
    let p = err_from_is_err_and c.from_residual.result c.from_residual.ensures.1 in (
      stands_either D.moment D.left_since d new (D.beside d).told kept all run.0,
      rw (p.1, p.2) (
          failed_so KeeperState KeeperState c.in_err-next.field-0.0 (λ next. IsBeside (D.tells new) (D.reads new) (D.may_leave new) next kept []) (λ next. Keeps (D.tells new) (D.reads new) (D.may_leave new) next all all) Stands Stands Still Either (still_keeps (D.tells new) (D.reads new) (D.may_leave new) (D.tells d) (D.reads d) (D.may_leave d) keeper kept keeps c.requires.settled image)
          (stands_for_either (D.tells new) (D.reads new) (D.may_leave new) keeper.mark kept all image keeps.built) run.1),
    )

pub returns-in_err-next-clause-written : goal.returns-in_err-next-clause-written
returns-in_err-next-clause-written g c = λ list built.
    let D = g.D.Disk in
    let new = c.begin_other.new.disk in
    let p = err_from_is_err_and c.from_residual.result c.from_residual.ensures.1 in
    rw (p.1, p.2) (unwritten KeeperState KeeperState c.in_err-next.field-0.0 (λ next. HasWritten (D.tells new) (D.reads new) next []) (λ next. HasWritten (D.tells new) (D.reads new) next c.args.changes.now) c.in_err-next.ensures.written)

-- ---- where one is

module _ (g : _) (c : After-fill g) where
  others_stay : IsElsewhere g.D.Disk.tells g.D.Disk.reads g.D.Disk.may_leave g.D.Disk.moment g.D.Disk.left_since g.D.Disk.beside g.D.Disk.disk_faults (log_file (1 - c.args.self.now.log.number)) c.args.disk.now c.fill.new.disk
  others_stay =
      let D = g.D.Disk in
      let mid = c.begin_other.new.disk in
      let number = ap (λ (k : KeeperState). k.log.number) c.in_ok-next.ensures.next in
      let P : ℕ → Type 0 = λ n. IsElsewhere D.tells D.reads D.may_leave D.moment D.left_since D.beside D.disk_faults (log_file n) mid c.fill.new.disk in
      elsewhere_then D.tells D.reads D.may_leave D.moment D.left_since D.beside D.disk_faults (log_file (1 - c.args.self.now.log.number)) c.args.disk.now mid c.fill.new.disk (g.met.D.Disk.counts_now mid) c.begin_other.ensures.elsewhere (subst P number c.fill.ensures.elsewhere)

  module _ (kept : List Change) (keeps : Keeps (g.D.Disk.tells c.args.disk.now) (g.D.Disk.reads c.args.disk.now) (g.D.Disk.may_leave c.args.disk.now) c.args.self.now kept kept) (list : IsList c.args.changes.now) (built : IsBuilt c.args.changes.now) where
    run : LeavesOnly g.D.Disk.moment g.D.Disk.left_since c.args.disk.now c.fill.new.disk (LeavesEither (g.D.Disk.beside c.args.disk.now).told kept c.args.changes.now)
    run =
        let D = g.D.Disk in
        let d = c.args.disk.now in
        let mid = c.begin_other.new.disk in
        let first = c.in_ok-next.ensures.begun kept keeps in
        either_stands D.moment D.left_since d mid c.fill.new.disk (D.beside d).told (D.beside mid).told (ap (λ (b : Beside). b.told) c.begin_other.ensures.elsewhere.rest) kept c.args.changes.now first.0 (c.fill.ensures.filled kept first.1 list built).0

pub returns-in_err-fill-clause-elsewhere : goal.returns-in_err-fill-clause-elsewhere
returns-in_err-fill-clause-elsewhere g c = others_stay g (goal.at.returns-in_err-fill-clause-elsewhere g c).After-fill

pub returns-clause-elsewhere : goal.returns-clause-elsewhere
returns-clause-elsewhere g c = others_stay g (goal.at.returns-clause-elsewhere g c).After-fill

pub returns-in_err-fill-clause-renewed : goal.returns-in_err-fill-clause-renewed
returns-in_err-fill-clause-renewed g c = λ kept keeps list built.
    let D = g.D.Disk in
    let d = c.args.disk.now in
    let new = c.fill.new.disk in
    let all = c.args.changes.now in
    let keeper = c.args.self.now in
    let at = (goal.at.returns-in_err-fill-clause-renewed g c).After-fill in
    let Stands : MarkState → Type 0 = λ m. StandsByMark (D.tells new) (D.reads new) (D.may_leave new) m kept in
    let Either = ReadsForEither (D.tells new) (D.reads new) (D.may_leave new) kept all in
    let Still = Keeps (D.tells new) (D.reads new) (D.may_leave new) keeper kept kept in
    let mark = ap (λ (k : KeeperState). k.mark) c.in_ok-next.ensures.next in
    let first = c.in_ok-next.ensures.begun kept keeps in
    let second = c.in_err-fill.ensures.filled kept first.1 list built in
    let image = keeps_elsewhere D.reads D.may_leave D.moment D.left_since D.beside d new (1 - keeper.log.number) (g.met.D.Disk.counts_now new) keeper.mark kept D.tells D.disk_faults (others_stay g at) keeps.image in
    let p = err_from_is_err_and c.from_residual-in_err-fill.result c.from_residual-in_err-fill.ensures.1 in (
      run g at kept keeps list built,
      rw (p.1, p.2) (
          failed_so (Unit {0}) KeeperState c.in_err-fill.field-0.0 (λ made. Keeps (D.tells new) (D.reads new) (D.may_leave new) c.fill.new.self all all) (λ next. Keeps (D.tells new) (D.reads new) (D.may_leave new) next all all) (Stands c.in_ok-next.next.mark) Either Still Either
          (λ stands. still_keeps (D.tells new) (D.reads new) (D.may_leave new) (D.tells d) (D.reads d) (D.may_leave d) keeper kept keeps c.requires.settled image (subst Stands mark stands)) (λ either. either) second.1),
    )

pub returns-clause-renewed : goal.returns-clause-renewed
returns-clause-renewed g c = λ kept keeps list built.
    let first = c.in_ok-next.ensures.begun kept keeps in
    let second = c.in_ok-fill.ensures.filled kept first.1 list built in
    (run g (goal.at.returns-clause-renewed g c).After-fill kept keeps list built, second.1)

pub returns-in_err-fill-clause-written : goal.returns-in_err-fill-clause-written
returns-in_err-fill-clause-written g c = λ list built.
    let D = g.D.Disk in
    let new = c.fill.new.disk in
    let all = c.args.changes.now in
    let p = err_from_is_err_and c.from_residual-in_err-fill.result c.from_residual-in_err-fill.ensures.1 in
    rw (p.1, p.2) (unwritten (Unit {0}) KeeperState c.in_err-fill.field-0.0 (λ made. HasWritten (D.tells new) (D.reads new) c.fill.new.self all) (λ next. HasWritten (D.tells new) (D.reads new) next all) (c.in_err-fill.ensures.written c.in_ok-next.ensures.written list built))

pub returns-clause-written : goal.returns-clause-written
returns-clause-written g c = λ list built. c.in_ok-fill.ensures.written c.in_ok-next.ensures.written list built

pub returns-clause-moved : goal.returns-clause-moved
returns-clause-moved g c = moved_after c.args.self.now c.in_ok-next.next c.fill.new.self c.in_ok-next.ensures.next c.in_ok-fill.ensures.alone
