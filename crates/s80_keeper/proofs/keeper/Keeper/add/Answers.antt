use Rattle.std.proofs.Common.{◌≡◌, IsTrue, ◌++◌, ◌∷◌, [], ℕ, length, ap, ◌∙◌, arith}
use Rattle.std.proofs.lemmas.Result.{err_from_is_err_and}
use Rattle.s80_change.specs.Block.{blocks}
use Rattle.s80_log.specs.Commit.{HoldsBeside}
use Rattle.s80_log.specs.Log.{held_in, log_file}
use Rattle.s80_log.specs.Standing.{StandsFor as StandsByMark}
use Rattle.s80_keeper.specs.Renewing.{HasWritten, IsBeside}
use Rattle.s80_keeper.proofs.Elsewhere.{elsewhere_still}
use Rattle.s80_keeper.proofs.Keeping.{stands_by_mark}
use Rattle.s80_keeper.proofs.Renewed.{beside_more, failed_so, grown_but_log, grown_log, grown_then, leaves_still, made_written, offline_so, unless_all}
use Rattle.s80_keeper.proofs.Written.{unwritten, written_more}
use Rattle.s80_keeper.proofs.lemmas.Images.{keeps_elsewhere}
use Rattle.s80_keeper.proofs.keeper.Keeper.add.Goals as goal

pub accept_at-requires : goal.accept_at-requires
accept_at-requires g c = omega (arith, c.in_ok-at.ensures.end, c.in_ok-at.ensures.place, ap length c.in_ok-block.ensures)

-- ---- where there is no block

pub returns-in_err-block-clause-added : goal.returns-in_err-block-clause-added
returns-in_err-block-clause-added g c = λ kept done beside may.
    let D = g.D.Disk in
    let d = c.args.disk.now in
    let stands = beside.holds.stands in
    let p = err_from_is_err_and c.from_residual.result c.from_residual.ensures.1 in (
      leaves_still D.moment D.left_since kept D.tells D.reads D.may_leave d (D.beside d).told (g.met.D.Disk.only_now d) (stands_by_mark (D.tells d) (D.reads d) (D.may_leave d) c.args.self.now.mark kept beside.image beside.kept_built stands),
      rw (p.1, p.2) stands,
    )

pub returns-in_err-block-clause-elsewhere : goal.returns-in_err-block-clause-elsewhere
returns-in_err-block-clause-elsewhere g c =
    let D = g.D.Disk in
    elsewhere_still D.tells D.reads D.may_leave D.moment D.left_since D.beside D.disk_faults (log_file c.args.self.now.log.number) c.args.disk.now (g.met.D.Disk.only_now c.args.disk.now)

-- ---- where it isn't written

pub returns-in_err-at-clause-same : goal.returns-in_err-at-clause-same
returns-in_err-at-clause-same g c = grown_log c.args.self.now c.append_block.new.self c.append_block.ensures.same

pub returns-in_err-at-clause-added : goal.returns-in_err-at-clause-added
returns-in_err-at-clause-added g c = λ kept done beside may.
    let D = g.D.Disk in
    let d = c.args.disk.now in
    let new = c.append_block.new.disk in
    let Stands = StandsByMark (D.tells new) (D.reads new) (D.may_leave new) c.args.self.now.mark kept in
    let all = done ++ c.args.change.now ∷ [] in
    let run = c.in_err-at.ensures.appended kept done c.args.change.now beside may c.in_ok-block.ensures in
    let p = err_from_is_err_and c.from_residual-in_err-at.result c.from_residual-in_err-at.ensures.1 in (
      run.0,
      rw (p.1, p.2) (
          failed_so ℕ (Unit {0}) c.in_err-at.field-0.0 (λ at. HoldsBeside (D.tells new) (D.reads new) (D.may_leave new) c.append_block.new.self.log c.args.self.now.mark kept all) (λ made. IsBeside (D.tells new) (D.reads new) (D.may_leave new) c.append_block.new.self kept all) ⊥ Stands Stands Stands (λ none. absurd none) (λ stands. stands)
          run.1),
    )

pub returns-in_err-at-clause-written : goal.returns-in_err-at-clause-written
returns-in_err-at-clause-written g c = λ done written may.
    let D = g.D.Disk in
    let new = c.append_block.new.disk in
    let all = done ++ c.args.change.now ∷ [] in
    let p = err_from_is_err_and c.from_residual-in_err-at.result c.from_residual-in_err-at.ensures.1 in
    rw (p.1, p.2) (unwritten ℕ (Unit {0}) c.in_err-at.field-0.0 (λ at. IsTrue (D.tells new) → held_in (D.reads new) c.append_block.new.self.log ≡ blocks all) (λ made. HasWritten (D.tells new) (D.reads new) c.append_block.new.self all) (c.in_err-at.ensures.written done c.args.change.now written may c.in_ok-block.ensures))

-- ---- where it is

pub returns-clause-same : goal.returns-clause-same
returns-clause-same g c = grown_then c.args.self.now c.append_block.new.self c.accept_at.new.self (grown_log c.args.self.now c.append_block.new.self c.append_block.ensures.same) (grown_but_log c.append_block.new.self c.accept_at.new.self c.accept_at.ensures.same)

pub returns-clause-added : goal.returns-clause-added
returns-clause-added g c = λ kept done beside may.
    let D = g.D.Disk in
    let d = c.args.disk.now in
    let mid = c.append_block.new.self in
    let new = c.append_block.new.disk in
    let all = done ++ c.args.change.now ∷ [] in
    let run = c.in_ok-at.ensures.appended kept done c.args.change.now beside may c.in_ok-block.ensures in
    let same = c.append_block.ensures.same in
    let made = made_written c.args.self.now mid done same beside.made in
    let taken = c.accept_at.ensures.accepted done made beside.holds.list (c.in_ok-at.ensures.place ∙ beside.holds.whole) may in
    let image = keeps_elsewhere D.reads D.may_leave D.moment D.left_since D.beside d new c.args.self.now.log.number (g.met.D.Disk.counts_now new) c.args.self.now.mark kept D.tells D.disk_faults c.append_block.ensures.elsewhere beside.image in
    (run.0, beside_more (D.tells new) (D.tells d) (D.reads new) (D.reads d) (D.may_leave new) (D.may_leave d) c.args.self.now mid c.accept_at.new.self kept done all c.accept_at.result beside image same c.accept_at.ensures.same run.1 taken)

pub returns-clause-written : goal.returns-clause-written
returns-clause-written g c = λ done written may.
    let D = g.D.Disk in
    let d = c.args.disk.now in
    let mid = c.append_block.new.self in
    let new = c.append_block.new.disk in
    let made = made_written c.args.self.now mid done c.append_block.ensures.same written.made in
    let taken = c.accept_at.ensures.accepted done made written.list (c.in_ok-at.ensures.place ∙ written.whole) may in
    written_more (D.tells new) (D.tells d) (D.reads new) (D.reads d) c.args.self.now mid c.accept_at.new.self done c.args.change.now c.in_ok-block.block c.accept_at.result written may c.in_ok-block.ensures c.in_ok-at.ensures.end c.accept_at.ensures.same (c.in_ok-at.ensures.written done c.args.change.now written may c.in_ok-block.ensures) taken

pub returns-clause-cause : goal.returns-clause-cause
returns-clause-cause g c = offline_so _ c.accept_at.result c.accept_at.ensures.offline

pub returns-clause-named : goal.returns-clause-named
returns-clause-named g c = offline_so _ c.accept_at.result c.accept_at.ensures.offline

pub returns-clause-faults_stay : goal.returns-clause-faults_stay
returns-clause-faults_stay g c = unless_all _ c.accept_at.result c.in_ok-at.ensures.faults_stay
