use Rattle.std.proofs.Common.{◌≡◌, ◌++◌, ◌∷◌, [], IsTrue, List, length, refl, sym, ap, subst, arith}
use Rattle.s80_change.specs.declared.change.Change.{Change}
use Rattle.s80_change.specs.Block.{blocks}
use Rattle.s80_disk.specs.Moments.{LeavesOnly}
use Rattle.s80_disk.proofs.lemmas.Run.{weaker}
use Rattle.s80_log.specs.Commit.{HoldsBeside, LeavesBeside}
use Rattle.s80_log.specs.Log.{LogEnd, held_in, log_file}
use Rattle.s80_log.specs.Standing.{FilesStandFor as StandByMark, StandsFor as StandsByMark}
use Rattle.s80_keeper.specs.Keeper.{KeeperState}
use Rattle.s80_keeper.specs.Renewing.{HasWritten, IsBeside}
use Rattle.s80_keeper.specs.Standing.{LeavesFor}
use Rattle.s80_keeper.proofs.Keeping.{leaves_kept}
use Rattle.s80_keeper.proofs.Written.{wrote_more}
use Rattle.s80_keeper.proofs.keeper.Keeper.append_block.Goals as goal
use Rattle.s80_keeper.proofs.keeper.Keeper.append_block.Goals.{After-append, in-Ok, in-Err-Disk, in-Err-Full}

module _ (g : _) (c : After-append g) where
  -- the keeper as the code has it
  abbrev keeper : KeeperState
  keeper = record { log = c.self.inside.log; mark = c.self.inside.mark; system = c.self.inside.system; history = c.self.inside.history; count = c.self.inside.count; fault = c.self.inside.fault }

  module _ (kept done : List Change) (beside : IsBeside (g.D.Disk.tells c.args.disk.now) (g.D.Disk.reads c.args.disk.now) (g.D.Disk.may_leave c.args.disk.now) c.args.self.now kept done) where
    beside_inside : IsBeside (g.D.Disk.tells c.args.disk.now) (g.D.Disk.reads c.args.disk.now) (g.D.Disk.may_leave c.args.disk.now) keeper kept done
    beside_inside =
        let P : KeeperState → Type 0 = λ k. IsBeside (g.D.Disk.tells c.args.disk.now) (g.D.Disk.reads c.args.disk.now) (g.D.Disk.may_leave c.args.disk.now) k kept done in
        subst P (sym c.self.view_is) beside

    run : LeavesOnly g.D.Disk.moment g.D.Disk.left_since c.args.disk.now c.append.new.disk (LeavesFor (g.D.Disk.beside c.args.disk.now).told kept)
    run =
        let D = g.D.Disk in
        let d = c.args.disk.now in
        let was = beside_inside in
        let file = log_file keeper.log.number in
        weaker D.moment D.left_since d c.append.new.disk (LeavesBeside (D.may_leave d) (D.beside d).told file (λ e. StandByMark e keeper.mark kept)) (LeavesFor (D.beside d).told kept) (c.append.ensures.stands_beside keeper.mark kept done was.holds)
        (leaves_kept (D.reads d) (D.may_leave d) (D.beside d).told keeper.log.number keeper.mark kept was.image was.kept_built)

  -- what it has written, as the code has it
  written_inside : (done : List Change) → HasWritten (g.D.Disk.tells c.args.disk.now) (g.D.Disk.reads c.args.disk.now) c.args.self.now done → HasWritten (g.D.Disk.tells c.args.disk.now) (g.D.Disk.reads c.args.disk.now) keeper done
  written_inside done written =
      let P : KeeperState → Type 0 = λ k. HasWritten (g.D.Disk.tells c.args.disk.now) (g.D.Disk.reads c.args.disk.now) k done in
      subst P (sym c.self.view_is) written

pub returns-clause-appended : goal.returns-clause-appended
returns-clause-appended g c = λ kept done change beside may is.
    let D = g.D.Disk in
    let new = c.append.new.disk in
    let at = (goal.at.returns-clause-appended g c).After-append in
    let was = beside_inside g at kept done beside in
    let Held : KeeperState → Type 0 = λ k. HoldsBeside (D.tells new) (D.reads new) (D.may_leave new) c.append.new.self k.mark kept (done ++ change ∷ []) in
    let Stands : KeeperState → Type 0 = λ k. StandsByMark (D.tells new) (D.reads new) (D.may_leave new) k.mark kept in (
      run g at kept done beside,
      elim c.match-append.branch [
        | in-Ok w ↦ rw w.result-is (subst Held c.self.view_is (w.in-Ok.ensures.holds_beside (keeper g at).mark kept done change was.holds may.lawful is))
        | in-Err-Disk w ↦ rw w.result-is (subst Stands c.self.view_is (w.in-Err-Disk.ensures.holds_beside (keeper g at).mark kept done change was.holds may.lawful is).stands)
        | in-Err-Full w ↦
            let full = (w.in-Err-Full.ensures.full w.in-Err-Full.at).0 (rw w.in-Err-Full.field-0-is refl) in
            rw (w.result-is, w.full.ensures) (omega (arith, full.1, was.holds.whole, may.within, ap length is))
      ],
    )

pub returns-clause-written : goal.returns-clause-written
returns-clause-written g c = λ done change written may is.
    let D = g.D.Disk in
    let d = c.args.disk.now in
    let new = c.append.new.disk in
    let at = (goal.at.returns-clause-written g c).After-append in
    let was = written_inside g at done written in
    let Held : LogEnd → Type 0 = λ l. held_in (D.reads new) l ≡ blocks (done ++ change ∷ []) in
    let file = log_file (keeper g at).log.number in
    elim c.match-append.branch [
      | in-Ok w ↦ rw w.result-is (λ told.
          let told_before = subst IsTrue c.append.ensures.tells told in
          subst Held (sym w.in-Ok.ensures.end) (wrote_more (keeper g at).log.end done change c.args.block.now (D.reads d file) (D.reads new file) (w.in-Ok.ensures.written told_before) (was.bytes told_before) was.whole is))
      | in-Err-Disk w ↦ rw w.result-is tt
      | in-Err-Full w ↦
          let full = (w.in-Err-Full.ensures.full w.in-Err-Full.at).0 (rw w.in-Err-Full.field-0-is refl) in
          rw (w.result-is, w.full.ensures) (omega (arith, full.1, was.whole, may.within, ap length is))
    ]
