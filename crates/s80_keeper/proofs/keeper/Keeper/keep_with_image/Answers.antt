use Rattle.std.proofs.Common.{◌≡◌, ◌≢◌, ◌≤◌, ◌+◌, ◌++◌, ◌∷◌, [], List, length, Err, sym, ap, ◌∙◌, subst}
use Rattle.std.proofs.lemmas.Result.{err_from_is_err_and}
use Rattle.s80_change.specs.declared.change.Change.{Change}
use Rattle.s80_change.specs.Block.{IsLawful, block, log_limit}
use Rattle.s80_disk.specs.declared.disk.FileId.{FileId}
use Rattle.s80_disk.specs.declared.disk.FileId.TheVariants.{Mark}
use Rattle.s80_disk.specs.Moments.{LeavesOnly}
use Rattle.s80_apply.specs.List.{state_of}
use Rattle.s80_apply.specs.Placed.{placed_of}
use Rattle.s80_mark.specs.declared.mark.MarkState.{MarkState}
use Rattle.s80_log.specs.Log.{log_file}
use Rattle.s80_keeper.specs.Answers.{IsFor, PlacesFor}
use Rattle.s80_keeper.specs.Condensing.{IsOpen}
use Rattle.s80_keeper.specs.Imaged.{image_file}
use Rattle.s80_keeper.specs.Keeper.{KeeperState, Keeps}
use Rattle.s80_keeper.specs.Renewing.{HasWritten}
use Rattle.s80_keeper.specs.Snapshot.{IsImageText, LeavesApart, note, other_image}
use Rattle.s80_keeper.specs.Standing.{LeavesEither}
use Rattle.s80_keeper.proofs.lemmas.Imaging.{apart_appended, apart_then, either_then, for_either}
use Rattle.s80_keeper.proofs.lemmas.Noted.{note_lawful}
use Rattle.s80_keeper.proofs.lemmas.Snapped.{same_file, snapped_after, unkept_after, unkept_log, unkept_open, unkept_snapped, written_imaged}
use Rattle.s80_keeper.proofs.keeper.Keeper.keep_with_image.Goals as goal
use Rattle.s80_keeper.proofs.keeper.Keeper.keep_with_image.Goals.{After-commit_with_image, In_err-keep_later}

-- ---- where the note isn't taken in

still_open : (g : _) (c : In_err-keep_later g) → IsOpen {T = Unit {0}} (Err c.in_err-keep_later.field-0.0)
still_open g c =
    let before = c.args.self.now in
    let room : before.log.end + length (block c.args.prepared.change) ≤ log_limit = subst (λ (x : Change). before.log.end + length (block x) ≤ log_limit) (sym c.requires.note) c.requires.room in
    unkept_open c.in_err-keep_later.field-0.0 before before.log.end (length (block c.args.prepared.change)) c.requires.open room c.in_err-keep_later.ensures.closed c.in_err-keep_later.ensures.full

pub returns-in_err-keep_later-clause-open : goal.returns-in_err-keep_later-clause-open
returns-in_err-keep_later-clause-open g c =
    let p = err_from_is_err_and c.from_residual.result c.from_residual.ensures.1 in
    rw (p.1, p.2) (still_open g (goal.at.returns-in_err-keep_later-clause-open g c).In_err-keep_later)

pub returns-in_err-keep_later-clause-after : goal.returns-in_err-keep_later-clause-after
returns-in_err-keep_later-clause-after g c =
    let p = err_from_is_err_and c.from_residual.result c.from_residual.ensures.1 in
    rw (p.1, p.2) (unkept_after c.in_err-keep_later.field-0.0 c.args.prepared c.args.self.now c.keep_later.new.self (still_open g (goal.at.returns-in_err-keep_later-clause-after g c).In_err-keep_later) c.in_err-keep_later.ensures.after)

pub returns-in_err-keep_later-clause-kept : goal.returns-in_err-keep_later-clause-kept
returns-in_err-keep_later-clause-kept g c = λ changes keeps step places text.
    let D = g.D.Disk in
    let new = c.keep_later.new.disk in
    let lawful : IsLawful c.args.prepared.change = subst IsLawful (sym c.requires.note) note_lawful in
    let p = err_from_is_err_and c.from_residual.result c.from_residual.ensures.1 in
    rw (p.1, p.2) (unkept_snapped c.in_err-keep_later.field-0.0 (D.tells new) (D.reads new) (D.may_leave new) c.keep_later.new.self changes c.args.prepared.change (still_open g (goal.at.returns-in_err-keep_later-clause-kept g c).In_err-keep_later) (c.in_err-keep_later.ensures.kept changes changes keeps lawful step places))

pub returns-in_err-keep_later-clause-any_moment : goal.returns-in_err-keep_later-clause-any_moment
returns-in_err-keep_later-clause-any_moment g c = λ changes keeps step places text.
    let D = g.D.Disk in
    let d = c.args.disk.now in
    for_either D.tells D.reads D.may_leave D.moment D.left_since D.beside d c.keep_later.new.disk (D.beside d).told changes (changes ++ note ∷ []) (c.keep_later.ensures.any_moment changes changes keeps)

pub returns-in_err-keep_later-clause-elsewhere : goal.returns-in_err-keep_later-clause-elsewhere
returns-in_err-keep_later-clause-elsewhere g c =
    let D = g.D.Disk in
    let before = c.args.self.now in
    apart_appended D.tells D.reads D.may_leave D.moment D.left_since D.beside c.args.disk.now c.keep_later.new.disk (log_file before.log.number) (image_file (other_image before.mark.image)) c.keep_later.ensures.elsewhere

pub returns-in_err-keep_later-clause-others : goal.returns-in_err-keep_later-clause-others
returns-in_err-keep_later-clause-others g c = λ other no_mark no_log no_image. c.keep_later.ensures.others other no_log

-- ---- where it is, and was to be committed

module _ (g : _) (c : After-commit_with_image g) where
  -- the log and the image are those of the keeper before
  files : (c.keep_later.new.self.log.number ≡ c.args.self.now.log.number) × (c.keep_later.new.self.mark ≡ c.args.self.now.mark)
  files = same_file c.args.prepared c.args.self.now c.keep_later.new.self c.in_ok-keep_later.ensures.after

  image_is : image_file (other_image c.keep_later.new.self.mark.image) ≡ image_file (other_image c.args.self.now.mark.image)
  image_is = ap (λ (m : MarkState). image_file (other_image m.image)) files.1

  apart : LeavesOnly g.D.Disk.moment g.D.Disk.left_since c.args.disk.now c.commit_with_image.new.disk (LeavesApart (g.D.Disk.may_leave c.args.disk.now) (g.D.Disk.beside c.args.disk.now).told (log_file c.args.self.now.log.number) (image_file (other_image c.args.self.now.mark.image)))
  apart =
      let D = g.D.Disk in
      let mid = c.keep_later.new.disk in
      let P : FileId → FileId → Type 0 = λ log image. LeavesOnly D.moment D.left_since mid c.commit_with_image.new.disk (LeavesApart (D.may_leave mid) (D.beside mid).told log image) in
      let before = c.args.self.now in
      let log = log_file before.log.number in
      let second = subst (P log) image_is (subst (λ f. P f (image_file (other_image c.keep_later.new.self.mark.image))) (ap log_file files.0) c.commit_with_image.ensures.elsewhere) in
      apart_then D.tells D.reads D.may_leave D.moment D.left_since D.beside c.args.disk.now mid c.commit_with_image.new.disk log (image_file (other_image before.mark.image)) c.keep_later.ensures.beside (g.met.D.Disk.counts_now mid) c.keep_later.ensures.elsewhere second

  others : (other : FileId) → other ≢ Mark → other ≢ log_file c.args.self.now.log.number → other ≢ image_file (other_image c.args.self.now.mark.image) → g.D.Disk.reads c.commit_with_image.new.disk other ≡ g.D.Disk.reads c.args.disk.now other
  others other no_mark no_log no_image = c.commit_with_image.ensures.others other no_mark (λ e. no_image (e ∙ image_is)) ∙ c.keep_later.ensures.others other no_log

  module _ (changes : List Change) (keeps : Keeps (g.D.Disk.tells c.args.disk.now) (g.D.Disk.reads c.args.disk.now) (g.D.Disk.may_leave c.args.disk.now) c.args.self.now changes changes) (step : IsFor (state_of changes) c.args.self.now.system c.args.prepared) (places : PlacesFor (placed_of changes) c.args.self.now.system c.args.prepared)
      (text : IsImageText (changes ++ note ∷ []) c.args.image.now) where
    -- the note is pending
    pending : Keeps (g.D.Disk.tells c.keep_later.new.disk) (g.D.Disk.reads c.keep_later.new.disk) (g.D.Disk.may_leave c.keep_later.new.disk) c.keep_later.new.self changes (changes ++ note ∷ [])
    pending =
        let D = g.D.Disk in
        let mid = c.keep_later.new.disk in
        let P : Change → Type 0 = λ change. Keeps (D.tells mid) (D.reads mid) (D.may_leave mid) c.keep_later.new.self changes (changes ++ change ∷ []) in
        let lawful : IsLawful c.args.prepared.change = subst IsLawful (sym c.requires.note) note_lawful in
        subst P c.requires.note (c.in_ok-keep_later.ensures.kept changes changes keeps lawful step places)

    run : LeavesOnly g.D.Disk.moment g.D.Disk.left_since c.args.disk.now c.commit_with_image.new.disk (LeavesEither (g.D.Disk.beside c.args.disk.now).told changes (changes ++ note ∷ []))
    run =
        let D = g.D.Disk in
        let mid = c.keep_later.new.disk in
        let all = changes ++ note ∷ [] in
        either_then D.tells D.reads D.may_leave D.moment D.left_since D.beside c.args.disk.now mid c.commit_with_image.new.disk changes all c.keep_later.ensures.beside (c.keep_later.ensures.any_moment changes changes keeps) (c.commit_with_image.ensures.any_moment changes all pending text)

pub returns-in-Err-clause-any_moment : goal.returns-in-Err-clause-any_moment
returns-in-Err-clause-any_moment g c = run g (goal.at.returns-in-Err-clause-any_moment g c).After-commit_with_image

pub returns-in-Err-clause-kept : goal.returns-in-Err-clause-kept
returns-in-Err-clause-kept g c = λ changes keeps step places text.
    c.in-Err.ensures.committed changes (changes ++ note ∷ []) (pending g (goal.at.returns-in-Err-clause-kept g c).After-commit_with_image changes keeps step places text) text

pub returns-in-Err-clause-elsewhere : goal.returns-in-Err-clause-elsewhere
returns-in-Err-clause-elsewhere g c = apart g (goal.at.returns-in-Err-clause-elsewhere g c).After-commit_with_image

pub returns-in-Err-clause-others : goal.returns-in-Err-clause-others
returns-in-Err-clause-others g c = others g (goal.at.returns-in-Err-clause-others g c).After-commit_with_image

-- ---- where that succeeded

pub returns-clause-any_moment : goal.returns-clause-any_moment
returns-clause-any_moment g c = run g (goal.at.returns-clause-any_moment g c).After-commit_with_image

pub returns-clause-kept : goal.returns-clause-kept
returns-clause-kept g c = λ changes keeps step places text.
    c.in_default.ensures.committed changes (changes ++ note ∷ []) (pending g (goal.at.returns-clause-kept g c).After-commit_with_image changes keeps step places text) text

pub returns-clause-after : goal.returns-clause-after
returns-clause-after g c = snapped_after c.args.prepared c.args.self.now c.keep_later.new.self c.commit_with_image.new.self (length c.args.image.now) c.requires.note c.in_ok-keep_later.ensures.after c.in_default.ensures.after

pub returns-clause-elsewhere : goal.returns-clause-elsewhere
returns-clause-elsewhere g c = apart g (goal.at.returns-clause-elsewhere g c).After-commit_with_image

pub returns-clause-others : goal.returns-clause-others
returns-clause-others g c = others g (goal.at.returns-clause-others g c).After-commit_with_image

-- ---- the log, and what is written whatever a crash may leave

pub returns-in_err-keep_later-clause-log : goal.returns-in_err-keep_later-clause-log
returns-in_err-keep_later-clause-log g c = unkept_log c.in_err-keep_later.field-0.0 c.args.prepared c.args.self.now c.keep_later.new.self c.in_err-keep_later.ensures.after

pub returns-in-Err-clause-log : goal.returns-in-Err-clause-log
returns-in-Err-clause-log g c = ap (λ (k : KeeperState). k.log.number) c.self.view_is ∙ ap (λ (k : KeeperState). k.log.number) c.in-Err.ensures.after ∙ (files g (goal.at.returns-in-Err-clause-log g c).After-commit_with_image).0

pub returns-clause-log : goal.returns-clause-log
returns-clause-log g c = ap (λ (k : KeeperState). k.log.number) c.in_default.ensures.after ∙ (files g (goal.at.returns-clause-log g c).After-commit_with_image).0

pub returns-clause-written : goal.returns-clause-written
returns-clause-written g c = λ changes written step places.
    let D = g.D.Disk in
    let mid = c.keep_later.new.disk in
    let new = c.commit_with_image.new.disk in
    let P : Change → Type 0 = λ change. HasWritten (D.tells mid) (D.reads mid) c.keep_later.new.self (changes ++ change ∷ []) in
    let lawful : IsLawful c.args.prepared.change = subst IsLawful (sym c.requires.note) note_lawful in
    let pending = subst P c.requires.note (c.in_ok-keep_later.ensures.written changes written lawful step places) in
    written_imaged (D.tells mid) (D.tells new) (D.reads mid) (D.reads new) c.keep_later.new.self c.commit_with_image.new.self (length c.args.image.now) (changes ++ note ∷ []) c.in_default.ensures.after c.commit_with_image.ensures.tells c.commit_with_image.ensures.others pending
