use Rattle.std.proofs.Common.{◌≡◌, ◌≢◌, ◌≤◌, ◌+◌, ◌++◌, ◌∷◌, [], List, None, length, sym, ap, ◌∙◌, subst, arith, rules, tests}
use Rattle.std.proofs.lemmas.Result.{err_from_is_err_and}
use Rattle.s80_change.specs.declared.change.Change.{Change}
use Rattle.s80_change.specs.Block.{IsList, block, log_limit}
use Rattle.s80_disk.specs.declared.disk.FileId.{FileId}
use Rattle.s80_disk.specs.declared.disk.FileId.TheVariants.{Mark}
use Rattle.s80_disk.specs.Moments.{LeavesOnly}
use Rattle.s80_apply.specs.List.{state_of}
use Rattle.s80_apply.specs.Placed.{placed_of}
use Rattle.s80_log.specs.Log.{log_file}
use Rattle.s80_keeper.specs.Imaged.{image_file}
use Rattle.s80_keeper.specs.Keeper.{KeeperState, Keeps}
use Rattle.s80_keeper.specs.Snapshot.{IsImageText, LeavesApart, note, other_image}
use Rattle.s80_keeper.proofs.lemmas.Imaging.{apart_still, either_still}
use Rattle.s80_keeper.proofs.lemmas.Noted.{note_follows}
use Rattle.s80_keeper.proofs.lemmas.Snapped.{after_prepared, closed_open, full_open, keeps_prepared, made_of, written_prepared}
use Rattle.s80_keeper.proofs.keeper.Keeper.snapshot.Goals as goal
use Rattle.s80_keeper.proofs.keeper.Keeper.snapshot.Goals.{After-keep_with_image}

-- ---- where no call is made

pub returns-in-Some-clause-elsewhere : goal.returns-in-Some-clause-elsewhere
returns-in-Some-clause-elsewhere g c =
    let D = g.D.Disk in
    apart_still D.tells D.reads D.may_leave D.moment D.left_since D.beside c.args.disk.now (log_file c.args.self.now.log.number) (image_file (other_image c.args.self.now.mark.image)) (g.met.D.Disk.only_now c.args.disk.now)

pub returns-then-not-has_room-clause-any_moment : goal.returns-then-not-has_room-clause-any_moment
returns-then-not-has_room-clause-any_moment g c = λ changes keeps.
    let D = g.D.Disk in
    either_still D.tells D.reads D.may_leave D.moment D.left_since D.beside c.args.disk.now c.args.self.now changes changes (changes ++ note ∷ []) (g.met.D.Disk.only_now c.args.disk.now) keeps

pub returns-then-not-has_room-clause-elsewhere : goal.returns-then-not-has_room-clause-elsewhere
returns-then-not-has_room-clause-elsewhere g c =
    let D = g.D.Disk in
    apart_still D.tells D.reads D.may_leave D.moment D.left_since D.beside c.args.disk.now (log_file c.args.self.now.log.number) (image_file (other_image c.args.self.now.mark.image)) (g.met.D.Disk.only_now c.args.disk.now)

pub returns-in_err-image-clause-any_moment : goal.returns-in_err-image-clause-any_moment
returns-in_err-image-clause-any_moment g c = λ changes keeps.
    let D = g.D.Disk in
    either_still D.tells D.reads D.may_leave D.moment D.left_since D.beside c.args.disk.now c.args.self.now changes changes (changes ++ note ∷ []) (g.met.D.Disk.only_now c.args.disk.now) keeps

pub returns-in_err-image-clause-elsewhere : goal.returns-in_err-image-clause-elsewhere
returns-in_err-image-clause-elsewhere g c =
    let D = g.D.Disk in
    apart_still D.tells D.reads D.may_leave D.moment D.left_since D.beside c.args.disk.now (log_file c.args.self.now.log.number) (image_file (other_image c.args.self.now.mark.image)) (g.met.D.Disk.only_now c.args.disk.now)

pub returns-in_err-prepared-clause-any_moment : goal.returns-in_err-prepared-clause-any_moment
returns-in_err-prepared-clause-any_moment g c = λ changes keeps.
    let D = g.D.Disk in
    either_still D.tells D.reads D.may_leave D.moment D.left_since D.beside c.args.disk.now c.args.self.now changes changes (changes ++ note ∷ []) (g.met.D.Disk.only_now c.args.disk.now) keeps

pub returns-in_err-prepared-clause-elsewhere : goal.returns-in_err-prepared-clause-elsewhere
returns-in_err-prepared-clause-elsewhere g c =
    let D = g.D.Disk in
    apart_still D.tells D.reads D.may_leave D.moment D.left_since D.beside c.args.disk.now (log_file c.args.self.now.log.number) (image_file (other_image c.args.self.now.mark.image)) (g.met.D.Disk.only_now c.args.disk.now)

pub returns-in_err-prepared-clause-kept : goal.returns-in_err-prepared-clause-kept
returns-in_err-prepared-clause-kept g c = λ changes keeps.
    let D = g.D.Disk in
    let d = c.args.disk.now in
    let done = c.prepare_note.ensures in
    let p = err_from_is_err_and c.from_residual-in_err-prepared.result c.from_residual-in_err-prepared.ensures.1 in
    rw (p.1, p.2) (keeps_prepared (D.tells d) (D.reads d) (D.may_leave d) c.args.self.now c.prepare_note.new.self changes done.same done.system done.same_places done.history keeps)

-- ---- where all memory is found

module _ (g : _) (c : After-keep_with_image g) where
  none : c.args.self.now.fault ≡ None
  none = sym (ap (λ (k : KeeperState). k.fault) c.self.view_is) ∙ c.in_default.is

  room : c.args.self.now.log.end + length (block note) ≤ log_limit
  room = search (rules, tests)

  module _ (changes : List Change) (keeps : Keeps (g.D.Disk.tells c.args.disk.now) (g.D.Disk.reads c.args.disk.now) (g.D.Disk.may_leave c.args.disk.now) c.args.self.now changes changes) where
    prepared : Keeps (g.D.Disk.tells c.args.disk.now) (g.D.Disk.reads c.args.disk.now) (g.D.Disk.may_leave c.args.disk.now) c.prepare_note.new.self changes changes
    prepared =
        let D = g.D.Disk in
        let d = c.args.disk.now in
        let done = c.prepare_note.ensures in
        keeps_prepared (D.tells d) (D.reads d) (D.may_leave d) c.args.self.now c.prepare_note.new.self changes done.same done.system done.same_places done.history keeps

    list : IsList (changes ++ note ∷ [])
    list = note_follows changes c.args.self.now.log.end keeps.holds.list keeps.holds.whole room

    text : IsImageText (changes ++ note ∷ []) c.in_ok-image.image
    text =
        let D = g.D.Disk in
        let d = c.args.disk.now in
        c.in_ok-image.ensures changes (made_of (D.tells d) (D.reads d) (D.may_leave d) c.args.self.now changes keeps) list

pub keep_with_image-requires-clause-open : goal.keep_with_image-requires-clause-open
keep_with_image-requires-clause-open g c = ap (λ (k : KeeperState). k.fault) c.prepare_note.ensures.same ∙ sym (ap (λ (k : KeeperState). k.fault) c.self.view_is) ∙ c.in_default.is

pub keep_with_image-requires-clause-room : goal.keep_with_image-requires-clause-room
keep_with_image-requires-clause-room g c =
    let room : c.args.self.now.log.end + length (block note) ≤ log_limit = search (rules, tests) in
    subst (λ (k : KeeperState). k.log.end + length (block note) ≤ log_limit) (sym c.prepare_note.ensures.same) room

pub returns-clause-after : goal.returns-clause-after
returns-clause-after g c = after_prepared c.keep_with_image.result c.args.self.now c.prepare_note.new.self c.keep_with_image.new.self c.keep_with_image.ensures.open c.prepare_note.ensures.same c.keep_with_image.ensures.after

pub returns-clause-any_moment : goal.returns-clause-any_moment
returns-clause-any_moment g c = λ changes keeps.
    let at = (goal.at.returns-clause-any_moment g c).After-keep_with_image in
    let ready = c.in_ok-prepared.ensures in
    c.keep_with_image.ensures.any_moment changes (prepared g at changes keeps) (ready.step (state_of changes) keeps.system) (ready.places (placed_of changes) keeps.places) (text g at changes keeps)

pub returns-clause-kept : goal.returns-clause-kept
returns-clause-kept g c = λ changes keeps.
    let at = (goal.at.returns-clause-kept g c).After-keep_with_image in
    let ready = c.in_ok-prepared.ensures in
    c.keep_with_image.ensures.kept changes (prepared g at changes keeps) (ready.step (state_of changes) keeps.system) (ready.places (placed_of changes) keeps.places) (text g at changes keeps)

pub returns-clause-closed : goal.returns-clause-closed
returns-clause-closed g c = λ failed. closed_open c.keep_with_image.result c.args.self.now.fault failed (none g (goal.at.returns-clause-closed g c).After-keep_with_image) c.keep_with_image.ensures.open

pub returns-clause-uncalled : goal.returns-clause-uncalled
returns-clause-uncalled g c = λ failed. absurd (failed (none g (goal.at.returns-clause-uncalled g c).After-keep_with_image))

pub returns-clause-full : goal.returns-clause-full
returns-clause-full g c = λ n. full_open c.keep_with_image.result c.args.self.now.fault c.args.self.now.log.end (length (block note)) n (room g (goal.at.returns-clause-full g c).After-keep_with_image) c.keep_with_image.ensures.open

pub returns-clause-unfit : goal.returns-clause-unfit
returns-clause-unfit g c = λ over.
    let fits = room g (goal.at.returns-clause-unfit g c).After-keep_with_image in
    absurd (omega (arith, over, fits))

pub returns-clause-elsewhere : goal.returns-clause-elsewhere
returns-clause-elsewhere g c =
    let D = g.D.Disk in
    let d = c.args.disk.now in
    let P : KeeperState → Type 0 = λ k. LeavesOnly D.moment D.left_since d c.keep_with_image.new.disk (LeavesApart (D.may_leave d) (D.beside d).told (log_file k.log.number) (image_file (other_image k.mark.image))) in
    subst P c.prepare_note.ensures.same c.keep_with_image.ensures.elsewhere

pub returns-clause-others : goal.returns-clause-others
returns-clause-others g c =
    let D = g.D.Disk in
    let P : KeeperState → Type 0 = λ k. (other : FileId) → other ≢ Mark → other ≢ log_file k.log.number → other ≢ image_file (other_image k.mark.image) → D.reads c.keep_with_image.new.disk other ≡ D.reads c.args.disk.now other in
    subst P c.prepare_note.ensures.same c.keep_with_image.ensures.others

-- ---- the log, and what is written whatever a crash may leave

pub returns-in_err-prepared-clause-stays : goal.returns-in_err-prepared-clause-stays
returns-in_err-prepared-clause-stays g c = λ over.
    let room : c.args.self.now.log.end + length (block note) ≤ log_limit = search (rules, tests) in
    absurd (omega (arith, over, room))

pub returns-in_err-prepared-clause-log : goal.returns-in_err-prepared-clause-log
returns-in_err-prepared-clause-log g c = ap (λ (k : KeeperState). k.log.number) c.prepare_note.ensures.same

pub returns-clause-stays : goal.returns-clause-stays
returns-clause-stays g c = λ over.
    let fits = room g (goal.at.returns-clause-stays g c).After-keep_with_image in
    absurd (omega (arith, over, fits))

pub returns-clause-log : goal.returns-clause-log
returns-clause-log g c = c.keep_with_image.ensures.log ∙ ap (λ (k : KeeperState). k.log.number) c.prepare_note.ensures.same

pub returns-clause-written : goal.returns-clause-written
returns-clause-written g c = λ changes written.
    let D = g.D.Disk in
    let d = c.args.disk.now in
    let done = c.prepare_note.ensures in
    let ready = c.in_ok-prepared.ensures in
    c.keep_with_image.ensures.written changes (written_prepared (D.tells d) (D.reads d) c.args.self.now c.prepare_note.new.self changes done.same done.system done.same_places done.history written) (ready.step (state_of changes) written.made.system) (ready.places (placed_of changes) written.made.places)
