use Rattle.std.proofs.Common.{◌≡◌, inl, List, sym, ◌∙◌, subst, rules}
use Rattle.std.specs.Prelude.{⊤}
use Rattle.s80_change.specs.declared.change.Change.{Change}
use Rattle.s80_disk.specs.declared.disk.FileId.TheVariants.{Mark}
use Rattle.s80_disk.specs.Moments.{LeavesOnly}
use Rattle.s80_disk.proofs.lemmas.Run.{started, weaker}
use Rattle.s80_mark.specs.declared.mark.MarkState.{MarkState}
use Rattle.s80_mark.specs.Commit.{HasEither}
use Rattle.s80_mark.specs.Stays.{Anything}
use Rattle.s80_apply.specs.List.{IsBuilt}
use Rattle.s80_log.specs.Log.{log_file}
use Rattle.s80_log.specs.Commit.{LeavesBeside, StandForEither, next_mark}
use Rattle.s80_keeper.specs.Imaged.{KeepsImage}
use Rattle.s80_keeper.specs.Keeper.{KeeperState, Keeps, pending_of}
use Rattle.s80_keeper.specs.Renewing.{HasWritten}
use Rattle.s80_keeper.specs.Standing.{LeavesEither, ReadsForEither}
use Rattle.s80_keeper.proofs.Keeping.{either_list, elsewhere, images_stand, keeps_all, keeps_unpending, kept_built, leaves_either, reads_either}
use Rattle.s80_keeper.proofs.KeptWritten.{written_marked}
use Rattle.s80_keeper.proofs.lemmas.Images.{keeps_beside, keeps_committed}
use Rattle.s80_keeper.proofs.keeper.Keeper.commit.Goals as goal
use Rattle.s80_keeper.proofs.keeper.Keeper.commit.Goals.{After-pending, After-commit}

-- ---- where nothing is pending

pub returns-then-pending-eq0-clause-any_moment : goal.returns-then-pending-eq0-clause-any_moment
returns-then-pending-eq0-clause-any_moment g c = λ kept all keeps.
    let D = g.D.Disk in
    let d = c.args.disk.now in
    started D.moment D.left_since d (LeavesEither (D.beside d).told kept all)
    (λ told e left. let now = g.met.D.Disk.only_now d told e left in record { told_is = now.1; files = inl (images_stand (D.tells d) (D.reads d) (D.may_leave d) c.args.self.now kept all keeps e now.0) })

pub returns-then-pending-eq0-clause-committed : goal.returns-then-pending-eq0-clause-committed
returns-then-pending-eq0-clause-committed g c = λ kept all keeps.
    let D = g.D.Disk in
    let d = c.args.disk.now in
    let none : pending_of c.args.self.now ≡ 0 = sym c.pending.ensures ∙ search rules in
    keeps_unpending (D.tells d) (D.reads d) (D.may_leave d) c.args.self.now kept all keeps none

-- ---- what the commit left

-- whatever the disk stands for, but for the mark
others_stay : (g : _) (c : After-commit g) → LeavesOnly g.D.Disk.moment g.D.Disk.left_since c.args.disk.now c.commit.new.disk (LeavesBeside (g.D.Disk.may_leave c.args.disk.now) (g.D.Disk.beside c.args.disk.now).told (log_file c.args.self.now.log.number) (λ e. ⊤))
others_stay g c =
    let D = g.D.Disk in
    let d = c.args.disk.now in
    let file = log_file c.args.self.now.log.number in
    let next = next_mark c.self.inside.mark c.self.inside.log c.self.inside.count in
    weaker D.moment D.left_since d c.commit.new.disk (HasEither (D.tells d) (D.reads d) (D.may_leave d) (D.beside d).told c.self.inside.mark next) (LeavesBeside (D.may_leave d) (D.beside d).told file (λ e. ⊤)) c.commit.ensures.any_moment
    (λ told e either. elsewhere (D.may_leave d) (D.beside d).told file Mark Anything (λ other no_mark no_log. no_mark) told e either.from)

module _ (g : _) (c : After-commit g) where
  -- the keeper as the code has it
  abbrev keeper : KeeperState
  keeper = record { log = c.self.inside.log; mark = c.self.inside.mark; system = c.self.inside.system; history = c.self.inside.history; count = c.self.inside.count; fault = c.self.inside.fault }

  -- the mark that is committed
  abbrev next : MarkState
  next = next_mark c.self.inside.mark c.self.inside.log c.self.inside.count

  module _ (kept all : List Change) (keeps : Keeps (g.D.Disk.tells c.args.disk.now) (g.D.Disk.reads c.args.disk.now) (g.D.Disk.may_leave c.args.disk.now) c.args.self.now kept all) where
    keeps_inside : Keeps (g.D.Disk.tells c.args.disk.now) (g.D.Disk.reads c.args.disk.now) (g.D.Disk.may_leave c.args.disk.now) keeper kept all
    keeps_inside =
        let P : KeeperState → Type 0 = λ k. Keeps (g.D.Disk.tells c.args.disk.now) (g.D.Disk.reads c.args.disk.now) (g.D.Disk.may_leave c.args.disk.now) k kept all in
        subst P (sym c.self.view_is) keeps

    built_front : IsBuilt kept
    built_front = kept_built (g.D.Disk.tells c.args.disk.now) (g.D.Disk.reads c.args.disk.now) (g.D.Disk.may_leave c.args.disk.now) keeper kept all keeps_inside

    -- of the mark that is committed
    next_image : KeepsImage (g.D.Disk.reads c.args.disk.now) (g.D.Disk.may_leave c.args.disk.now) next all
    next_image =
        let was = keeps_inside in
        keeps_committed (g.D.Disk.reads c.args.disk.now) (g.D.Disk.may_leave c.args.disk.now) c.self.inside.mark c.self.inside.log c.self.inside.count kept was.front.0 all was.front.1 was.image

    -- and then
    image_then : KeepsImage (g.D.Disk.reads c.commit.new.disk) (g.D.Disk.may_leave c.commit.new.disk) c.self.inside.mark kept
    image_then =
        let D = g.D.Disk in
        let d = c.args.disk.now in
        let new = c.commit.new.disk in
        let was = keeps_inside in
        let mark = c.self.inside.mark in
        keeps_beside (D.reads d) (D.may_leave d) c.self.inside.log.number mark kept was.image (D.beside d).told (D.beside new).told (StandForEither mark kept next all) (D.reads new) (D.may_leave new) (λ other no_mark no_log. c.commit.ensures.others other no_mark) (λ e left. c.commit.ensures.left kept all e was.holds was.count left)

    next_then : KeepsImage (g.D.Disk.reads c.commit.new.disk) (g.D.Disk.may_leave c.commit.new.disk) next all
    next_then =
        let was = keeps_inside in
        keeps_committed (g.D.Disk.reads c.commit.new.disk) (g.D.Disk.may_leave c.commit.new.disk) c.self.inside.mark c.self.inside.log c.self.inside.count kept was.front.0 all was.front.1 image_then

    run : LeavesOnly g.D.Disk.moment g.D.Disk.left_since c.args.disk.now c.commit.new.disk (LeavesEither (g.D.Disk.beside c.args.disk.now).told kept all)
    run =
        let D = g.D.Disk in
        let d = c.args.disk.now in
        let was = keeps_inside in
        let file = log_file c.self.inside.log.number in
        weaker D.moment D.left_since d c.commit.new.disk (LeavesBeside (D.may_leave d) (D.beside d).told file (StandForEither c.self.inside.mark kept next all)) (LeavesEither (D.beside d).told kept all) (c.commit.ensures.stands kept all was.holds was.count)
        (leaves_either (D.reads d) (D.may_leave d) c.self.inside.mark next kept all was.image next_image built_front was.built (D.beside d).told c.self.inside.log.number)

    broke_off : ReadsForEither (g.D.Disk.tells c.commit.new.disk) (g.D.Disk.reads c.commit.new.disk) (g.D.Disk.may_leave c.commit.new.disk) kept all
    broke_off =
        let D = g.D.Disk in
        let d = c.args.disk.now in
        let new = c.commit.new.disk in
        let was = keeps_inside in
        let mark = c.self.inside.mark in
        record {
          stands = reads_either (D.tells new) (D.reads new) (D.may_leave new) mark next kept all image_then next_then built_front was.built (c.commit.ensures.reads kept all was.holds was.count);
          images = λ e left. either_list (D.reads d) (D.may_leave d) mark next kept all was.image next_image built_front was.built (D.beside d).told c.self.inside.log.number (D.beside new).told e (c.commit.ensures.left kept all e was.holds was.count left);
        }

-- ---- where it failed

pub returns-in-Err-clause-any_moment : goal.returns-in-Err-clause-any_moment
returns-in-Err-clause-any_moment g c = run g (goal.at.returns-in-Err-clause-any_moment g c).After-commit

pub returns-in-Err-clause-committed : goal.returns-in-Err-clause-committed
returns-in-Err-clause-committed g c = broke_off g (goal.at.returns-in-Err-clause-committed g c).After-commit

pub returns-in-Err-clause-elsewhere : goal.returns-in-Err-clause-elsewhere
returns-in-Err-clause-elsewhere g c = others_stay g (goal.at.returns-in-Err-clause-elsewhere g c).After-commit

-- ---- where it succeeded

pub returns-clause-any_moment : goal.returns-clause-any_moment
returns-clause-any_moment g c = run g (goal.at.returns-clause-any_moment g c).After-commit

pub returns-clause-committed : goal.returns-clause-committed
returns-clause-committed g c = λ kept all keeps.
    let D = g.D.Disk in
    let d = c.args.disk.now in
    let new = c.commit.new.disk in
    let at = (goal.at.returns-clause-committed g c).After-commit in
    let was = keeps_inside g at kept all keeps in
    let done = c.in_default-commit.ensures in
    let Imaged : MarkState → Type 0 = λ m. KeepsImage (D.reads new) (D.may_leave new) m all in
    keeps_all (D.tells d) (D.reads d) (D.may_leave d) (keeper g at) kept all was (D.tells new) (D.reads new) (D.may_leave new) c.commit.new.self c.commit.new.mark (subst Imaged (sym done.mark) (next_then g at kept all keeps)) (done.committed kept all was.holds was.count)

pub returns-clause-written : goal.returns-clause-written
returns-clause-written g c = λ changes written.
    let D = g.D.Disk in
    let d = c.args.disk.now in
    let new = c.commit.new.disk in
    let at = (goal.at.returns-clause-written g c).After-commit in
    let Written : KeeperState → Type 0 = λ k. HasWritten (D.tells d) (D.reads d) k changes in
    written_marked (D.tells d) (D.tells new) (D.reads d) (D.reads new) (keeper g at) c.commit.new.self c.commit.new.mark changes (subst Written (sym c.self.view_is) written) c.commit.ensures.same c.commit.ensures.tells c.commit.ensures.others

pub returns-clause-elsewhere : goal.returns-clause-elsewhere
returns-clause-elsewhere g c = others_stay g (goal.at.returns-clause-elsewhere g c).After-commit
