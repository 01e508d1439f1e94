use Rattle.std.proofs.Common.{◌++◌, ◌∷◌, [], ℕ, List, take, refl, sym, ap, ◌∙◌, subst, arith}
use Rattle.std.proofs.lemmas.List.{take_all}
use Rattle.std.proofs.lemmas.Result.{err_from_is_err_and}
use Rattle.s80_change.specs.declared.change.Change.{Change}
use Rattle.s80_change.specs.Block.{IsList}
use Rattle.s80_disk.specs.Moments.{Beside, LeavesOnly}
use Rattle.s80_apply.specs.List.{IsBuilt}
use Rattle.s80_log.specs.Log.{log_file}
use Rattle.s80_log.specs.Standing.{StandsFor as StandsByMark}
use Rattle.s80_mark.specs.declared.mark.MarkState.{MarkState}
use Rattle.s80_keeper.specs.Keeper.{KeeperState}
use Rattle.s80_keeper.specs.Renewing.{HasWritten, IsBeside, IsElsewhere}
use Rattle.s80_keeper.specs.Standing.{LeavesFor}
use Rattle.s80_keeper.proofs.Elsewhere.{elsewhere_still, elsewhere_then}
use Rattle.s80_keeper.proofs.Keeping.{stands_by_mark}
use Rattle.s80_keeper.proofs.Renewed.{failed_so, grown_then, leaves_still, leaves_then, may_follow, taken_more}
use Rattle.s80_keeper.proofs.Written.{unwritten}
use Rattle.s80_keeper.proofs.keeper.Keeper.add_all.Goals as goal
use Rattle.s80_keeper.proofs.keeper.Keeper.add_all.Goals.{After-add}

module _ (g : _) (c : After-add g) where
  -- but for the mark and the log
  others_stay : IsElsewhere g.D.Disk.tells g.D.Disk.reads g.D.Disk.may_leave g.D.Disk.moment g.D.Disk.left_since g.D.Disk.beside g.D.Disk.disk_faults (log_file c.args.self.now.log.number) c.args.disk.now c.add.new.disk
  others_stay =
      let D = g.D.Disk in
      let mid = c.loop-i.disk in
      let number = ap (λ (k : KeeperState). k.log.number) c.loop-i.invariant.same in
      let P : ℕ → Type 0 = λ n. IsElsewhere D.tells D.reads D.may_leave D.moment D.left_since D.beside D.disk_faults (log_file n) mid c.add.new.disk in
      elsewhere_then D.tells D.reads D.may_leave D.moment D.left_since D.beside D.disk_faults (log_file c.args.self.now.log.number) c.args.disk.now mid c.add.new.disk (g.met.D.Disk.counts_now mid) c.loop-i.invariant.elsewhere (subst P number c.add.ensures.elsewhere)

  module _ (kept : List Change) (beside : IsBeside (g.D.Disk.tells c.args.disk.now) (g.D.Disk.reads c.args.disk.now) (g.D.Disk.may_leave c.args.disk.now) c.args.self.now kept []) (list : IsList c.args.changes.now) (built : IsBuilt c.args.changes.now) where
    run : LeavesOnly g.D.Disk.moment g.D.Disk.left_since c.args.disk.now c.add.new.disk (LeavesFor (g.D.Disk.beside c.args.disk.now).told kept)
    run =
        let D = g.D.Disk in
        let d = c.args.disk.now in
        let mid = c.loop-i.disk in
        let so_far = c.loop-i.invariant.added kept beside list built in
        let step = c.add.ensures.added kept (take c.loop-i.i c.args.changes.now) so_far.1 (may_follow c.args.changes.now c.loop-i.i c.at.result.now list built c.at.ensures) in
        leaves_then D.moment D.left_since kept d mid c.add.new.disk (D.beside d).told (D.beside mid).told (ap (λ (b : Beside). b.told) c.loop-i.invariant.elsewhere.rest) so_far.0 step.0

pub loop-i-init : goal.loop-i-init
loop-i-init g c =
    let D = g.D.Disk in
    let d = c.args.disk.now in
    record {
      added = λ kept beside list built. (leaves_still D.moment D.left_since kept D.tells D.reads D.may_leave d (D.beside d).told (g.met.D.Disk.only_now d) (stands_by_mark (D.tells d) (D.reads d) (D.may_leave d) c.args.self.now.mark kept beside.image beside.kept_built beside.holds.stands), beside);
      written = λ written list built. written;
      same = refl;
      elsewhere = elsewhere_still D.tells D.reads D.may_leave D.moment D.left_since D.beside D.disk_faults (log_file c.args.self.now.log.number) d (g.met.D.Disk.only_now d);
      faults_stay = refl;
    }

pub loop-i-preserved : goal.loop-i-preserved
loop-i-preserved g c =
    let D = g.D.Disk in
    let new = c.add.new.disk in
    let at = (goal.at.loop-i-preserved g c).After-add in
    let So : List Change → List Change → Type 0 = λ kept done. IsBeside (D.tells new) (D.reads new) (D.may_leave new) c.add.new.self kept done in
    let Had : List Change → Type 0 = λ done. HasWritten (D.tells new) (D.reads new) c.add.new.self done in
    record {
      added = λ kept beside list built. (
        run g at kept beside list built,
        subst (So kept) (sym (taken_more c.args.changes.now c.loop-i.i c.at.result.now c.at.ensures)) (c.in_ok-add.ensures.added kept (take c.loop-i.i c.args.changes.now) (c.loop-i.invariant.added kept beside list built).1 (may_follow c.args.changes.now c.loop-i.i c.at.result.now list built c.at.ensures)).1,
      );
      written = λ written list built.
          subst Had (sym (taken_more c.args.changes.now c.loop-i.i c.at.result.now c.at.ensures)) (c.in_ok-add.ensures.written (take c.loop-i.i c.args.changes.now) (c.loop-i.invariant.written written list built) (may_follow c.args.changes.now c.loop-i.i c.at.result.now list built c.at.ensures));
      same = grown_then c.args.self.now c.loop-i.self c.add.new.self c.loop-i.invariant.same c.add.ensures.same;
      elsewhere = others_stay g at;
      faults_stay = c.in_ok-add.ensures.faults_stay ∙ c.loop-i.invariant.faults_stay;
    }

pub returns-in_err-add-clause-same : goal.returns-in_err-add-clause-same
returns-in_err-add-clause-same g c = grown_then c.args.self.now c.loop-i.self c.add.new.self c.loop-i.invariant.same c.add.ensures.same

pub returns-in_err-add-clause-elsewhere : goal.returns-in_err-add-clause-elsewhere
returns-in_err-add-clause-elsewhere g c = others_stay g (goal.at.returns-in_err-add-clause-elsewhere g c).After-add

pub returns-in_err-add-clause-added : goal.returns-in_err-add-clause-added
returns-in_err-add-clause-added g c = λ kept beside list built.
    let D = g.D.Disk in
    let new = c.add.new.disk in
    let at = (goal.at.returns-in_err-add-clause-added g c).After-add in
    let before = (c.loop-i.invariant.added kept beside list built).1 in
    let one = c.in_err-add.ensures.added kept (take c.loop-i.i c.args.changes.now) before (may_follow c.args.changes.now c.loop-i.i c.at.result.now list built c.at.ensures) in
    let Stands : MarkState → Type 0 = λ m. StandsByMark (D.tells new) (D.reads new) (D.may_leave new) m kept in
    let same = ap (λ (k : KeeperState). k.mark) c.loop-i.invariant.same in
    let p = err_from_is_err_and c.from_residual.result c.from_residual.ensures.1 in (
      run g at kept beside list built,
      rw (p.1, p.2) (
          failed_so (Unit {0}) (Unit {0}) c.in_err-add.field-0.0 (λ made. IsBeside (D.tells new) (D.reads new) (D.may_leave new) c.add.new.self kept (take c.loop-i.i c.args.changes.now ++ c.at.result.now ∷ [])) (λ made. IsBeside (D.tells new) (D.reads new) (D.may_leave new) c.add.new.self kept c.args.changes.now) (Stands c.loop-i.self.mark) (Stands c.loop-i.self.mark) (Stands c.args.self.now.mark) (Stands c.args.self.now.mark) (λ stands. subst Stands same stands) (λ stands. subst Stands same stands) one.1),
    )

pub returns-in_err-add-clause-written : goal.returns-in_err-add-clause-written
returns-in_err-add-clause-written g c = λ written list built.
    let D = g.D.Disk in
    let new = c.add.new.disk in
    let so_far = take c.loop-i.i c.args.changes.now in
    let Had : List Change → Type 0 = λ done. HasWritten (D.tells new) (D.reads new) c.add.new.self done in
    let p = err_from_is_err_and c.from_residual.result c.from_residual.ensures.1 in
    rw (p.1, p.2) (unwritten (Unit {0}) (Unit {0}) c.in_err-add.field-0.0 (λ made. Had (so_far ++ c.at.result.now ∷ [])) (λ made. Had c.args.changes.now) (c.in_err-add.ensures.written so_far (c.loop-i.invariant.written written list built) (may_follow c.args.changes.now c.loop-i.i c.at.result.now list built c.at.ensures)))

pub returns-clause-added : goal.returns-clause-added
returns-clause-added g c = λ kept beside list built.
    let D = g.D.Disk in
    let new = c.loop-i.disk in
    let done = c.loop-i.invariant.added kept beside list built in
    let P : List Change → Type 0 = λ l. IsBeside (D.tells new) (D.reads new) (D.may_leave new) c.loop-i.self kept l in
    (done.0, subst P (take_all c.loop-i.i c.args.changes.now (omega (arith, c.loop-i-test.false, c.count-i-end.ensures))) done.1)

pub returns-clause-written : goal.returns-clause-written
returns-clause-written g c = λ written list built.
    let D = g.D.Disk in
    let new = c.loop-i.disk in
    let P : List Change → Type 0 = λ l. HasWritten (D.tells new) (D.reads new) c.loop-i.self l in
    subst P (take_all c.loop-i.i c.args.changes.now (omega (arith, c.loop-i-test.false, c.count-i-end.ensures))) (c.loop-i.invariant.written written list built)
