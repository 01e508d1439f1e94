use Rattle.std.proofs.Common.{ℕ, ap, subst}
use Rattle.std.proofs.lemmas.Result.{err_from_is_err_and, on_ok_weaker}
use Rattle.s80_disk.specs.Moments.{Beside}
use Rattle.s80_log.specs.Log.{log_file}
use Rattle.s80_log.specs.Standing.{StandsFor as StandsByMark}
use Rattle.s80_keeper.specs.Keeper.{KeeperState, Keeps}
use Rattle.s80_keeper.specs.Renewing.{HasWritten, IsBeside, IsElsewhere}
use Rattle.s80_keeper.specs.Standing.{ReadsForEither}
use Rattle.s80_keeper.proofs.Elsewhere.{elsewhere_then}
use Rattle.s80_keeper.proofs.Renewed.{alone_after, answered_so, failed_so, stands_for_either}
use Rattle.s80_keeper.proofs.Together.{either_stands, stands_either}
use Rattle.s80_keeper.proofs.Written.{unwritten}
use Rattle.s80_keeper.proofs.lemmas.Images.{keeps_elsewhere}
use Rattle.s80_keeper.proofs.keeper.Keeper.fill.Goals as goal

-- ---- where not all are taken in

pub returns-in_err-add_all-clause-filled : goal.returns-in_err-add_all-clause-filled
returns-in_err-add_all-clause-filled g c = λ kept beside list built.
    let D = g.D.Disk in
    let d = c.args.disk.now in
    let new = c.add_all.new.disk in
    let all = c.args.changes.now in
    let mark = c.args.self.now.mark in
    let Stands = StandsByMark (D.tells new) (D.reads new) (D.may_leave new) mark kept in
    let Either = ReadsForEither (D.tells new) (D.reads new) (D.may_leave new) kept all in
    let run = c.in_err-add_all.ensures.added kept beside list built in
    let image = keeps_elsewhere D.reads D.may_leave D.moment D.left_since D.beside d new c.args.self.now.log.number (g.met.D.Disk.counts_now new) mark kept D.tells D.disk_faults c.add_all.ensures.elsewhere beside.image in
    let p = err_from_is_err_and c.from_residual.result c.from_residual.ensures.1 in (
      stands_either D.moment D.left_since d new (D.beside d).told kept all run.0,
      rw (p.1, p.2) (
          failed_so (Unit {0}) (Unit {0}) c.in_err-add_all.field-0.0 (λ made. IsBeside (D.tells new) (D.reads new) (D.may_leave new) c.add_all.new.self kept all) (λ made. Keeps (D.tells new) (D.reads new) (D.may_leave new) c.add_all.new.self all all) Stands Stands Stands Either (λ stands. stands) (stands_for_either (D.tells new) (D.reads new) (D.may_leave new) mark kept all image beside.kept_built)
          run.1),
    )

pub returns-in_err-add_all-clause-written : goal.returns-in_err-add_all-clause-written
returns-in_err-add_all-clause-written g c = λ written list built.
    let D = g.D.Disk in
    let new = c.add_all.new.disk in
    let Had : Type 0 = HasWritten (D.tells new) (D.reads new) c.add_all.new.self c.args.changes.now in
    let p = err_from_is_err_and c.from_residual.result c.from_residual.ensures.1 in
    rw (p.1, p.2) (unwritten (Unit {0}) (Unit {0}) c.in_err-add_all.field-0.0 (λ made. Had) (λ made. Had) (c.in_err-add_all.ensures.written written list built))

-- ---- where they are

pub returns-clause-alone : goal.returns-clause-alone
returns-clause-alone g c = on_ok_weaker c.count_alone.result (alone_after c.args.self.now c.add_all.new.self c.count_alone.new.self c.add_all.ensures.same) c.count_alone.ensures.alone

pub returns-clause-filled : goal.returns-clause-filled
returns-clause-filled g c = λ kept beside list built.
    let D = g.D.Disk in
    let d = c.args.disk.now in
    let mid = c.add_all.new.disk in
    let new = c.count_alone.new.disk in
    let all = c.args.changes.now in
    let Done = Keeps (D.tells new) (D.reads new) (D.may_leave new) c.count_alone.new.self all all in
    let Either = ReadsForEither (D.tells new) (D.reads new) (D.may_leave new) kept all in
    let Stands = StandsByMark (D.tells new) (D.reads new) (D.may_leave new) c.args.self.now.mark kept in
    let first = c.in_ok-add_all.ensures.added kept beside list built in
    let second = c.count_alone.ensures.counted kept all first.1 in (
      either_stands D.moment D.left_since d mid new (D.beside d).told (D.beside mid).told (ap (λ (b : Beside). b.told) c.add_all.ensures.elsewhere.rest) kept all first.0 second.0,
      answered_so c.count_alone.result (λ value. Done) (λ value. Done) ⊥ Either Stands Either (λ value done. done) (λ none. absurd none) (λ either. either) second.1,
    )

pub returns-clause-written : goal.returns-clause-written
returns-clause-written g c = λ written list built. c.count_alone.ensures.written c.args.changes.now (c.in_ok-add_all.ensures.written written list built)

pub returns-clause-elsewhere : goal.returns-clause-elsewhere
returns-clause-elsewhere g c =
    let D = g.D.Disk in
    let mid = c.add_all.new.disk in
    let number = ap (λ (k : KeeperState). k.log.number) c.add_all.ensures.same in
    let P : ℕ → Type 0 = λ n. IsElsewhere D.tells D.reads D.may_leave D.moment D.left_since D.beside D.disk_faults (log_file n) mid c.count_alone.new.disk in
    elsewhere_then D.tells D.reads D.may_leave D.moment D.left_since D.beside D.disk_faults (log_file c.args.self.now.log.number) c.args.disk.now mid c.count_alone.new.disk (g.met.D.Disk.counts_now mid) c.add_all.ensures.elsewhere (subst P number c.count_alone.ensures.elsewhere)
