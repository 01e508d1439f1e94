use Rattle.std.proofs.Common.{◌≡◌, ◌≢◌, ℕ, List, length, sym, ap, ◌∙◌, subst}
use Rattle.std.proofs.lemmas.Result.{err_from_is_err_and}
use Rattle.s80_change.specs.declared.change.Change.{Change}
use Rattle.s80_disk.specs.declared.disk.FileId.{FileId}
use Rattle.s80_disk.specs.declared.disk.FileId.TheVariants.{Mark}
use Rattle.s80_disk.specs.Image.{Image, Only}
use Rattle.s80_disk.specs.Moments.{LeavesOnly}
use Rattle.s80_mark.specs.declared.mark.MarkState.{MarkState}
use Rattle.s80_log.specs.Log.{log_file}
use Rattle.s80_log.specs.Commit.{LeavesBeside, ReadForEither, StandForEither, imaged_mark}
use Rattle.s80_keeper.specs.Imaged.{image_file}
use Rattle.s80_keeper.specs.Keeper.{KeeperState, Keeps}
use Rattle.s80_keeper.specs.Snapshot.{IsImageText, LeavesApart, other_image}
use Rattle.s80_keeper.specs.Standing.{LeavesEither, ReadsForEither}
use Rattle.s80_keeper.proofs.lemmas.Imaging.{IsFilled, after_imaged, apart_marked, apart_written, keeps_marked, keeps_written, marks, moments_marked, moments_written, others_marked, unmarked, unwritten}
use Rattle.s80_keeper.proofs.keeper.Keeper.commit_with_image.Goals as goal
use Rattle.s80_keeper.proofs.keeper.Keeper.commit_with_image.Goals.{After-write_image, After-commit_with_image}

-- ---- where the image isn't written

module _ (g : _) (c : After-write_image g) where
  -- the keeper as the code has it
  abbrev keeper : KeeperState
  keeper = record { log = c.self.inside.log; mark = c.self.inside.mark; system = c.self.inside.system; history = c.self.inside.history; count = c.self.inside.count; fault = c.self.inside.fault }

  written : IsFilled g.D.Disk.tells g.D.Disk.reads g.D.Disk.may_leave g.D.Disk.moment g.D.Disk.left_since g.D.Disk.beside (image_file (other_image c.self.inside.mark.image)) c.args.disk.now c.write_image.new.disk
  written =
      let D = g.D.Disk in
      let w = c.write_image.ensures in
      let P : FileId → Type 0 = λ f. IsFilled D.tells D.reads D.may_leave D.moment D.left_since D.beside f c.args.disk.now c.write_image.new.disk in
      subst P (c.file_of_image.ensures ∙ ap image_file c.unused_image-number.ensures.number) record { telling = w.tells; others = w.others; crash = w.crash; any_moment = w.any_moment; rest = w.beside }

  -- by any keeper
  abbrev Apart : KeeperState → Type 0
  Apart k = LeavesOnly g.D.Disk.moment g.D.Disk.left_since c.args.disk.now c.write_image.new.disk (LeavesApart (g.D.Disk.may_leave c.args.disk.now) (g.D.Disk.beside c.args.disk.now).told (log_file k.log.number) (image_file (other_image k.mark.image)))

  apart : Apart c.args.self.now
  apart =
      let D = g.D.Disk in
      subst Apart c.self.view_is (apart_written D.tells D.reads D.may_leave D.moment D.left_since D.beside c.args.disk.now c.write_image.new.disk keeper written)

  module _ (kept all : List Change) (keeps : Keeps (g.D.Disk.tells c.args.disk.now) (g.D.Disk.reads c.args.disk.now) (g.D.Disk.may_leave c.args.disk.now) c.args.self.now kept all) where
    inside : Keeps (g.D.Disk.tells c.args.disk.now) (g.D.Disk.reads c.args.disk.now) (g.D.Disk.may_leave c.args.disk.now) keeper kept all
    inside =
        let P : KeeperState → Type 0 = λ k. Keeps (g.D.Disk.tells c.args.disk.now) (g.D.Disk.reads c.args.disk.now) (g.D.Disk.may_leave c.args.disk.now) k kept all in
        subst P (sym c.self.view_is) keeps

pub returns-in_err-write_image-clause-any_moment : goal.returns-in_err-write_image-clause-any_moment
returns-in_err-write_image-clause-any_moment g c = λ kept all keeps is.
    let D = g.D.Disk in
    let at = (goal.at.returns-in_err-write_image-clause-any_moment g c).After-write_image in
    moments_written D.tells D.reads D.may_leave D.moment D.left_since D.beside c.args.disk.now c.write_image.new.disk (keeper g at) (written g at) kept all all (inside g at kept all keeps)

pub returns-in_err-write_image-clause-committed : goal.returns-in_err-write_image-clause-committed
returns-in_err-write_image-clause-committed g c = λ kept all keeps is.
    let D = g.D.Disk in
    let at = (goal.at.returns-in_err-write_image-clause-committed g c).After-write_image in
    let p = err_from_is_err_and c.from_residual.result c.from_residual.ensures.1 in
    rw p.1 (unwritten D.tells D.reads D.may_leave D.moment D.left_since D.beside c.args.disk.now c.write_image.new.disk (keeper g at) (written g at) kept all (inside g at kept all keeps))

pub returns-in_err-write_image-clause-elsewhere : goal.returns-in_err-write_image-clause-elsewhere
returns-in_err-write_image-clause-elsewhere g c = apart g (goal.at.returns-in_err-write_image-clause-elsewhere g c).After-write_image

pub returns-in_err-write_image-clause-others : goal.returns-in_err-write_image-clause-others
returns-in_err-write_image-clause-others g c = λ other no_mark no_image.
    (written g (goal.at.returns-in_err-write_image-clause-others g c).After-write_image).others other (λ e. no_image (e ∙ ap (λ (k : KeeperState). image_file (other_image k.mark.image)) c.self.view_is))

-- ---- where it is, and the mark was to be committed

module _ (g : _) (c : After-commit_with_image g) where
  abbrev was : KeeperState
  was = record { log = c.self.inside.log; mark = c.self.inside.mark; system = c.self.inside.system; history = c.self.inside.history; count = c.self.inside.count; fault = c.self.inside.fault }

  abbrev unused : FileId
  unused = image_file (other_image c.self.inside.mark.image)

  file_is : c.file_of_image.result ≡ unused
  file_is = c.file_of_image.ensures ∙ ap image_file c.unused_image-number.ensures.number

  abbrev Fills : FileId → g.row.D.Denot → g.row.D.Denot → Type 0
  Fills = IsFilled g.D.Disk.tells g.D.Disk.reads g.D.Disk.may_leave g.D.Disk.moment g.D.Disk.left_since g.D.Disk.beside

  filled_first : Fills unused c.args.disk.now c.write_image.new.disk
  filled_first =
      let w = c.write_image.ensures in
      let P : FileId → Type 0 = λ f. Fills f c.args.disk.now c.write_image.new.disk in
      subst P file_is record { telling = w.tells; others = w.others; crash = w.crash; any_moment = w.any_moment; rest = w.beside }

  marked : Fills Mark c.write_image.new.disk c.commit_with_image.new.disk
  marked =
      let D = g.D.Disk in
      let m = c.commit_with_image.ensures in
      marks D.tells D.reads D.may_leave D.moment D.left_since D.beside c.self.inside.mark (imaged_mark c.self.inside.mark c.self.inside.log c.self.inside.count c.unused_image-number.result (length c.bytes-bytes.result.now)) c.write_image.new.disk c.commit_with_image.new.disk m.tells m.others m.crash m.any_moment m.beside

  abbrev ApartThen : KeeperState → Type 0
  ApartThen k = LeavesOnly g.D.Disk.moment g.D.Disk.left_since c.args.disk.now c.commit_with_image.new.disk (LeavesApart (g.D.Disk.may_leave c.args.disk.now) (g.D.Disk.beside c.args.disk.now).told (log_file k.log.number) (image_file (other_image k.mark.image)))

  apart_then : ApartThen c.args.self.now
  apart_then =
      let D = g.D.Disk in
      subst ApartThen c.self.view_is (apart_marked D.tells D.reads D.may_leave D.moment D.left_since D.beside c.args.disk.now c.write_image.new.disk was filled_first c.commit_with_image.new.disk marked)

  others_then : (other : FileId) → other ≢ Mark → other ≢ image_file (other_image c.args.self.now.mark.image) → g.D.Disk.reads c.commit_with_image.new.disk other ≡ g.D.Disk.reads c.args.disk.now other
  others_then other no_mark no_image =
      let D = g.D.Disk in
      others_marked D.tells D.reads D.may_leave D.moment D.left_since D.beside c.args.disk.now c.write_image.new.disk was filled_first c.commit_with_image.new.disk marked other no_mark (λ e. no_image (e ∙ ap (λ (k : KeeperState). image_file (other_image k.mark.image)) c.self.view_is))

  module _ (kept all : List Change) (keeps : Keeps (g.D.Disk.tells c.args.disk.now) (g.D.Disk.reads c.args.disk.now) (g.D.Disk.may_leave c.args.disk.now) c.args.self.now kept all) (is : IsImageText all c.args.image.now) where
    within : Keeps (g.D.Disk.tells c.args.disk.now) (g.D.Disk.reads c.args.disk.now) (g.D.Disk.may_leave c.args.disk.now) was kept all
    within =
        let P : KeeperState → Type 0 = λ k. Keeps (g.D.Disk.tells c.args.disk.now) (g.D.Disk.reads c.args.disk.now) (g.D.Disk.may_leave c.args.disk.now) k kept all in
        subst P (sym c.self.view_is) keeps

    is_text : IsImageText all c.bytes-bytes.result.now
    is_text = subst (IsImageText all) (sym c.bytes-bytes.ensures) is

    keeps_mid : Keeps (g.D.Disk.tells c.write_image.new.disk) (g.D.Disk.reads c.write_image.new.disk) (g.D.Disk.may_leave c.write_image.new.disk) was kept all
    keeps_mid =
        let D = g.D.Disk in
        keeps_written D.tells D.reads D.may_leave D.moment D.left_since D.beside c.args.disk.now c.write_image.new.disk was filled_first kept all within

    -- the file holds the image for certain
    here : g.D.Disk.reads c.write_image.new.disk unused ≡ c.bytes-bytes.result.now
    here =
        let P : FileId → Type 0 = λ f. g.D.Disk.reads c.write_image.new.disk f ≡ c.bytes-bytes.result.now in
        subst P file_is (c.in_ok-write_image.ensures.filled keeps.holds.stands.told)

    stays : Only unused (g.D.Disk.reads c.write_image.new.disk unused) (g.D.Disk.may_leave c.write_image.new.disk)
    stays =
        let P : FileId → Type 0 = λ f. Only f (g.D.Disk.reads c.write_image.new.disk f) (g.D.Disk.may_leave c.write_image.new.disk) in
        subst P file_is c.in_ok-write_image.ensures.durable

    -- by the mark that names the image of this number
    abbrev by : ℕ → MarkState
    by number = imaged_mark c.self.inside.mark c.self.inside.log c.self.inside.count number (length c.bytes-bytes.result.now)

    abbrev Marks : ℕ → ℕ → Image → Type 0
    Marks number = LeavesBeside (g.D.Disk.may_leave c.write_image.new.disk) (g.D.Disk.beside c.write_image.new.disk).told (log_file c.self.inside.log.number) (StandForEither c.self.inside.mark kept (by number) all)

    run : LeavesOnly g.D.Disk.moment g.D.Disk.left_since c.args.disk.now c.commit_with_image.new.disk (LeavesEither (g.D.Disk.beside c.args.disk.now).told kept all)
    run =
        let D = g.D.Disk in
        let P : ℕ → Type 0 = λ number. LeavesOnly D.moment D.left_since c.write_image.new.disk c.commit_with_image.new.disk (Marks number) in
        moments_marked D.tells D.reads D.may_leave D.moment D.left_since D.beside c.args.disk.now c.write_image.new.disk was filled_first c.commit_with_image.new.disk marked kept all within c.bytes-bytes.result.now is_text here stays
        (subst P c.unused_image-number.ensures.number (c.commit_with_image.ensures.stands kept all keeps_mid.holds keeps_mid.count))

    broke_off : ReadsForEither (g.D.Disk.tells c.commit_with_image.new.disk) (g.D.Disk.reads c.commit_with_image.new.disk) (g.D.Disk.may_leave c.commit_with_image.new.disk) kept all
    broke_off =
        let D = g.D.Disk in
        let new = c.commit_with_image.new.disk in
        let m = c.commit_with_image.ensures in
        let Reading : ℕ → Type 0 = λ number. ReadForEither (D.tells new) (D.reads new) (D.may_leave new) c.self.inside.mark kept (by number) all in
        let Leaving : ℕ → Type 0 = λ number. (e : Image) → D.may_leave new e → Marks number (D.beside new).told e in
        let number = c.unused_image-number.ensures.number in
        unmarked D.tells D.reads D.may_leave D.moment D.left_since D.beside c.args.disk.now c.write_image.new.disk was filled_first new marked kept all within c.bytes-bytes.result.now is_text here stays
        (subst Reading number (m.reads kept all keeps_mid.holds keeps_mid.count))
        (subst Leaving number (λ e left. m.left kept all e keeps_mid.holds keeps_mid.count left))

pub returns-in_err-commit_with_image-clause-any_moment : goal.returns-in_err-commit_with_image-clause-any_moment
returns-in_err-commit_with_image-clause-any_moment g c = run g (goal.at.returns-in_err-commit_with_image-clause-any_moment g c).After-commit_with_image

pub returns-in_err-commit_with_image-clause-committed : goal.returns-in_err-commit_with_image-clause-committed
returns-in_err-commit_with_image-clause-committed g c = λ kept all keeps is.
    let p = err_from_is_err_and c.from_residual-in_err-commit_with_image.result c.from_residual-in_err-commit_with_image.ensures.1 in
    rw p.1 (broke_off g (goal.at.returns-in_err-commit_with_image-clause-committed g c).After-commit_with_image kept all keeps is)

pub returns-in_err-commit_with_image-clause-elsewhere : goal.returns-in_err-commit_with_image-clause-elsewhere
returns-in_err-commit_with_image-clause-elsewhere g c = apart_then g (goal.at.returns-in_err-commit_with_image-clause-elsewhere g c).After-commit_with_image

pub returns-in_err-commit_with_image-clause-others : goal.returns-in_err-commit_with_image-clause-others
returns-in_err-commit_with_image-clause-others g c = others_then g (goal.at.returns-in_err-commit_with_image-clause-others g c).After-commit_with_image

-- ---- where it succeeded

pub returns-clause-any_moment : goal.returns-clause-any_moment
returns-clause-any_moment g c = run g (goal.at.returns-clause-any_moment g c).After-commit_with_image

pub returns-clause-elsewhere : goal.returns-clause-elsewhere
returns-clause-elsewhere g c = apart_then g (goal.at.returns-clause-elsewhere g c).After-commit_with_image

pub returns-clause-others : goal.returns-clause-others
returns-clause-others g c = others_then g (goal.at.returns-clause-others g c).After-commit_with_image

pub returns-clause-after : goal.returns-clause-after
returns-clause-after g c =
    let at = (goal.at.returns-clause-after g c).After-commit_with_image in
    let same = c.self.view_is in
    after_imaged (was g at) c.args.self.now c.commit_with_image.new.self c.commit_with_image.new.mark c.unused_image-number.result (length c.bytes-bytes.result.now) c.args.image.now same c.commit_with_image.ensures.same c.unused_image-number.ensures.number (ap length c.bytes-bytes.ensures) c.in_ok-commit_with_image.ensures.mark

pub returns-clause-committed : goal.returns-clause-committed
returns-clause-committed g c = λ kept all keeps is.
    let D = g.D.Disk in
    let at = (goal.at.returns-clause-committed g c).After-commit_with_image in
    let mid = keeps_mid g at kept all keeps is in
    let done = c.in_ok-commit_with_image.ensures in
    let mark_is = done.mark ∙ ap (by g at kept all keeps is) c.unused_image-number.ensures.number in
    keeps_marked D.tells D.reads D.may_leave D.moment D.left_since D.beside c.args.disk.now c.write_image.new.disk (was g at) (filled_first g at) c.commit_with_image.new.disk (marked g at) kept all (within g at kept all keeps is) c.bytes-bytes.result.now (is_text g at kept all keeps is) (here g at kept all keeps is) (stays g at kept all keeps is)
    c.commit_with_image.new.self c.commit_with_image.new.mark mark_is (done.committed kept all mid.holds mid.count)
