use Rattle.std.proofs.Common.{◌≡◌, ℕ, List, length, refl, sym, ap, ◌∙◌, subst, arith, rules}
use Rattle.std.specs.Prelude.{⊤}
use Rattle.s80_change.specs.declared.change.Change.{Change}
use Rattle.s80_change.specs.Block.{block}
use Rattle.s80_disk.specs.Image.{Image, Torn, Wrote}
use Rattle.s80_disk.specs.Moments.{ComesFrom, LeavesOnly}
use Rattle.s80_disk.proofs.lemmas.Run.{started, weaker}
use Rattle.s80_log.specs.Log.{log_file}
use Rattle.s80_log.specs.Standing.{FilesStandFor as StandByMark}
use Rattle.s80_log.specs.Commit.{LeavesBeside}
use Rattle.s80_keeper.specs.Imaged.{KeepsImage}
use Rattle.s80_keeper.specs.Keeper.{KeeperState, Keeps}
use Rattle.s80_keeper.specs.Renewing.{HasWritten}
use Rattle.s80_keeper.specs.Standing.{LeavesFor}
use Rattle.s80_keeper.proofs.Keeping.{after_taken, elsewhere, installed_at, kept_built, keeps_later, keeps_still, leaves_kept, noted_kept, stands_by_mark, still_elsewhere}
use Rattle.s80_keeper.proofs.KeptWritten.{written_later}
use Rattle.s80_keeper.proofs.lemmas.Images.{keeps_behind}
use Rattle.s80_keeper.proofs.keeper.Keeper.keep_later.Goals as goal
use Rattle.s80_keeper.proofs.keeper.Keeper.keep_later.Goals.{After-append}

-- the block that is written is that of the change
is_block : (g : _) (c : After-append g) → c.block.result.now ≡ block c.args.prepared.change
is_block g c = c.block.ensures

module _ (g : _) (c : After-append g) where
  -- the keeper as the code has it
  abbrev keeper : KeeperState
  keeper = record { log = c.self.inside.log; mark = c.self.inside.mark; system = c.self.inside.system; history = c.self.inside.history; count = c.self.inside.count; fault = c.self.inside.fault }

  module _ (kept all : List Change) (keeps : Keeps (g.D.Disk.tells c.args.disk.now) (g.D.Disk.reads c.args.disk.now) (g.D.Disk.may_leave c.args.disk.now) c.args.self.now kept all) where
    keeps_inside : Keeps (g.D.Disk.tells c.args.disk.now) (g.D.Disk.reads c.args.disk.now) (g.D.Disk.may_leave c.args.disk.now) keeper kept all
    keeps_inside =
        let P : KeeperState → Type 0 = λ k. Keeps (g.D.Disk.tells c.args.disk.now) (g.D.Disk.reads c.args.disk.now) (g.D.Disk.may_leave c.args.disk.now) k kept all in
        subst P (sym c.self.view_is) keeps

    run : LeavesOnly g.D.Disk.moment g.D.Disk.left_since c.args.disk.now c.append.new.disk (LeavesFor (g.D.Disk.beside c.args.disk.now).told kept)
    run =
        let D = g.D.Disk in
        let d = c.args.disk.now in
        let was = keeps_inside in
        let built = kept_built (D.tells d) (D.reads d) (D.may_leave d) keeper kept all was in
        weaker D.moment D.left_since d c.append.new.disk (LeavesBeside (D.may_leave d) (D.beside d).told (log_file c.self.inside.log.number) (λ e. StandByMark e c.self.inside.mark kept)) (LeavesFor (D.beside d).told kept) (c.append.ensures.stands c.self.inside.mark kept all was.holds)
        (leaves_kept (D.reads d) (D.may_leave d) (D.beside d).told c.self.inside.log.number c.self.inside.mark kept was.image built)

    image_then : KeepsImage (g.D.Disk.reads c.append.new.disk) (g.D.Disk.may_leave c.append.new.disk) c.self.inside.mark kept
    image_then =
        let D = g.D.Disk in
        let d = c.args.disk.now in
        let new = c.append.new.disk in
        let was = keeps_inside in
        let mark = c.self.inside.mark in
        keeps_behind D.reads D.may_leave D.moment D.left_since D.beside d new c.self.inside.log.number (g.met.D.Disk.counts_now new) mark kept (λ e. StandByMark e mark kept) (λ other no_mark no_log. c.append.ensures.others other no_log) (c.append.ensures.stands mark kept all was.holds) was.image

-- whatever the disk stands for, but for the log
others_stay : (g : _) (c : After-append g) → LeavesOnly g.D.Disk.moment g.D.Disk.left_since c.args.disk.now c.append.new.disk (LeavesBeside (g.D.Disk.may_leave c.args.disk.now) (g.D.Disk.beside c.args.disk.now).told (log_file c.args.self.now.log.number) (λ e. ⊤))
others_stay g c =
    let D = g.D.Disk in
    let d = c.args.disk.now in
    let file = log_file c.self.inside.log.number in
    let P : KeeperState → Type 0 = λ k. LeavesOnly D.moment D.left_since d c.append.new.disk (LeavesBeside (D.may_leave d) (D.beside d).told (log_file k.log.number) (λ e. ⊤)) in
    let Left : ℕ → Image → Type 0 = ComesFrom (D.may_leave d) (D.beside d).told file (Torn c.self.inside.log.end (length c.block.result.now)) in
    subst P c.self.view_is (weaker D.moment D.left_since d c.append.new.disk Left (LeavesBeside (D.may_leave d) (D.beside d).told file (λ e. ⊤)) c.append.ensures.any_moment
    (elsewhere (D.may_leave d) (D.beside d).told file file (Torn c.self.inside.log.end (length c.block.result.now)) (λ other no_mark no_log. no_log)))

pub returns-in-Some-clause-elsewhere : goal.returns-in-Some-clause-elsewhere
returns-in-Some-clause-elsewhere g c =
    let D = g.D.Disk in
    let d = c.args.disk.now in
    started D.moment D.left_since d _ (λ told e left. still_elsewhere (D.may_leave d) (D.beside d).told (log_file c.args.self.now.log.number) told e (g.met.D.Disk.only_now d told e left))

pub returns-in-Ok-clause-elsewhere : goal.returns-in-Ok-clause-elsewhere
returns-in-Ok-clause-elsewhere g c = others_stay g (goal.at.returns-in-Ok-clause-elsewhere g c).After-append

pub returns-in-Err-Disk-clause-elsewhere : goal.returns-in-Err-Disk-clause-elsewhere
returns-in-Err-Disk-clause-elsewhere g c = others_stay g (goal.at.returns-in-Err-Disk-clause-elsewhere g c).After-append

pub returns-in-Err-Full-clause-elsewhere : goal.returns-in-Err-Full-clause-elsewhere
returns-in-Err-Full-clause-elsewhere g c = others_stay g (goal.at.returns-in-Err-Full-clause-elsewhere g c).After-append

pub returns-in-Ok-clause-any_moment : goal.returns-in-Ok-clause-any_moment
returns-in-Ok-clause-any_moment g c = run g (goal.at.returns-in-Ok-clause-any_moment g c).After-append

pub returns-in-Ok-clause-after : goal.returns-in-Ok-clause-after
returns-in-Ok-clause-after g c =
    let keeper : KeeperState = record { log = c.self.inside.log; mark = c.self.inside.mark; system = c.self.inside.system; history = c.self.inside.history; count = c.self.inside.count; fault = c.self.inside.fault } in (
      installed_at keeper c.args.self.now c.args.prepared.step c.in-Ok.at c.take_in.new.system c.self.view_is c.in-Ok.ensures.place c.take_in.ensures.system,
      after_taken keeper c.args.self.now c.append.new.self c.take_in.new.system c.take_in.new.history _ (length c.block.result.now) c.args.prepared.change c.self.view_is (ap length (is_block g (goal.at.returns-in-Ok-clause-after g c).After-append)) c.in-Ok.ensures.end (search rules),
    )

pub returns-in-Ok-clause-kept : goal.returns-in-Ok-clause-kept
returns-in-Ok-clause-kept g c = λ kept all keeps lawful ready places.
    let at = (goal.at.returns-in-Ok-clause-kept g c).After-append in
    let was = keeps_inside g at kept all keeps in
    let holds = c.in-Ok.ensures.holds c.self.inside.mark kept all c.args.prepared.change was.holds lawful (is_block g at) in
    let noted =
    noted_kept all c.args.prepared.change c.self.inside.log.end c.in-Ok.at c.self.inside.history c.take_in.new.history c.in-Ok.ensures.place was.holds.whole was.holds.list.lawful lawful was.history
    c.take_in.ensures.history in
    let new = c.append.new.disk in
    let Imaged : KeeperState → Type 0 = λ k. KeepsImage (g.D.Disk.reads new) (g.D.Disk.may_leave new) k.mark kept in
    keeps_later _ _ _ c.args.self.now kept all keeps _ _ _ _ c.args.prepared (subst Imaged c.self.view_is (image_then g at kept all keeps)) ready places (returns-in-Ok-clause-after g c) holds noted

pub returns-in-Ok-clause-written : goal.returns-in-Ok-clause-written
returns-in-Ok-clause-written g c = λ changes written lawful ready places.
    let at = (goal.at.returns-in-Ok-clause-written g c).After-append in
    let D = g.D.Disk in
    let d = c.args.disk.now in
    let new = c.append.new.disk in
    let change = c.args.prepared.change in
    let Written : KeeperState → Type 0 = λ k. HasWritten (D.tells d) (D.reads d) k changes in
    let Behind : KeeperState → List ℕ → Type 0 = λ k piece. Wrote k.log.end piece (D.reads d (log_file k.log.number)) (D.reads new (log_file k.log.number)) in
    let was = subst Written (sym c.self.view_is) written in
    let noted = noted_kept changes change c.self.inside.log.end c.in-Ok.at c.self.inside.history c.take_in.new.history c.in-Ok.ensures.place was.whole was.list.lawful lawful was.made.history c.take_in.ensures.history in
    written_later (D.tells d) (D.tells new) (D.reads d) (D.reads new) c.args.self.now _ changes c.args.prepared written lawful ready places (returns-in-Ok-clause-after g c) c.in-Ok.ensures.within c.append.ensures.tells
    (λ told. subst (λ k. Behind k (block change)) c.self.view_is (subst (Behind (keeper g at)) (is_block g at) (c.in-Ok.ensures.written told))) noted

pub returns-in-Err-Disk-clause-any_moment : goal.returns-in-Err-Disk-clause-any_moment
returns-in-Err-Disk-clause-any_moment g c = run g (goal.at.returns-in-Err-Disk-clause-any_moment g c).After-append

pub returns-in-Err-Disk-clause-kept : goal.returns-in-Err-Disk-clause-kept
returns-in-Err-Disk-clause-kept g c = λ kept all keeps lawful ready places.
    let at = (goal.at.returns-in-Err-Disk-clause-kept g c).After-append in
    let was = keeps_inside g at kept all keeps in
    let still = c.in-Err-Disk.ensures.holds c.self.inside.mark kept all c.args.prepared.change was.holds lawful (is_block g at) in
    stands_by_mark _ _ _ c.self.inside.mark kept (image_then g at kept all keeps) (kept_built _ _ _ _ kept all was) still.stands

pub returns-in-Err-Disk-clause-full : goal.returns-in-Err-Disk-clause-full
returns-in-Err-Disk-clause-full g c = λ n. (
  λ e. absurd cc,
  λ over.
      let end = ap (λ (k : KeeperState). k.log.end) c.self.view_is in
      let size = ap length (is_block g (goal.at.returns-in-Err-Disk-clause-full g c).After-append) in
      let fault = rw c.in-Err-Disk.field-0-is at ((c.in-Err-Disk.ensures.full n).1 (over.1 ∙ sym end, omega (arith, over.2))) in
      absurd cc,
)

pub returns-in-Err-Full-clause-any_moment : goal.returns-in-Err-Full-clause-any_moment
returns-in-Err-Full-clause-any_moment g c = run g (goal.at.returns-in-Err-Full-clause-any_moment g c).After-append

pub returns-in-Err-Full-clause-full : goal.returns-in-Err-Full-clause-full
returns-in-Err-Full-clause-full g c = λ n.
    let end = ap (λ (k : KeeperState). k.log.end) c.self.view_is in
    let fault = ap (λ (k : KeeperState). k.fault) c.self.view_is in
    let size = ap length (is_block g (goal.at.returns-in-Err-Full-clause-full g c).After-append) in
    let full = c.in-Err-Full.ensures.full n in (
      λ e.
          let is = full.0 (rw c.in-Err-Full.field-0-is cc) in
          (sym fault ∙ c.in_default.is, is.0 ∙ end, omega (arith, is.1)),
      λ over.
          let is = rw c.in-Err-Full.field-0-is at (full.1 (over.1 ∙ sym end, omega (arith, over.2))) in
          cc,
    )

pub returns-in-Err-Full-clause-kept : goal.returns-in-Err-Full-clause-kept
returns-in-Err-Full-clause-kept g c = λ kept all keeps lawful ready places.
    let at = (goal.at.returns-in-Err-Full-clause-kept g c).After-append in
    let D = g.D.Disk in
    let full = (c.in-Err-Full.ensures.full c.in-Err-Full.length).0 (rw c.in-Err-Full.field-0-is refl) in
    keeps_still D.tells D.reads D.may_leave c.args.disk.now c.append.new.disk (keeper g at) c.append.new.self kept all (c.in-Err-Full.ensures.untouched full.1) c.in-Err-Full.ensures.end (keeps_inside g at kept all keeps)
