use Rattle.std.proofs.Common.{◌≡◌, ◌≤◌, ◌⊎◌, Bool, length, Ok, IfOk, IsTrue, ap, sym, subst, ◌∙◌}
use Rattle.std.proofs.lemmas.Result.{err_from_is_err_and}
use Rattle.s80_disk.specs.Image.{Image}
use Rattle.s80_disk.specs.Moments.{Beside, LeavesOnly}
use Rattle.s80_disk.proofs.lemmas.Run.{weaker, joined}
use Rattle.s80_mark.specs.declared.read.Found.{Found}
use Rattle.s80_mark.specs.Found.{AreLogsEmpty}
use Rattle.s80_log.specs.Log.{log_file}
use Rattle.s80_keeper.specs.Standing.{FilesStandFor, ReadsFor, StandsFor, LeavesEither, LeavesFor}
use Rattle.s80_keeper.specs.Start.{HasMark, IsStart, Started, StartLeaves}
use Rattle.s80_keeper.specs.Reading.{IsFound}
use Rattle.s80_keeper.proofs.Starts.{still_left, left_on, synced_on, leaves_for, leaves_killed, none_kept, first_keeps, first_stands, first_start, settled_first, still_empty, whole_first}
use Rattle.s80_keeper.proofs.Resumed.{found_started, settled_mark, started_mark, whole_mark}
use Rattle.s80_keeper.proofs.keeper.Keeper.start.Goals as goal
use Rattle.s80_keeper.proofs.keeper.Keeper.start.Goals.{After-find_mark, After-init_mark, After-resume-in-Mark}

-- from a disk that stands for a list
stands : (g : _) (c : After-find_mark g) (new : _) (changes : _) → StandsFor (g.D.Disk.tells c.args.disk.now) (g.D.Disk.reads c.args.disk.now) (g.D.Disk.may_leave c.args.disk.now) changes → LeavesOnly g.D.Disk.moment g.D.Disk.left_since c.args.disk.now new (StartLeaves (g.D.Disk.reads c.args.disk.now) (g.D.Disk.may_leave c.args.disk.now) (g.D.Disk.beside c.args.disk.now).told) → LeavesOnly g.D.Disk.moment g.D.Disk.left_since c.args.disk.now new (LeavesFor (g.D.Disk.beside c.args.disk.now).told changes)
stands g c new changes is run =
    let D = g.D.Disk in
    let d = c.args.disk.now in
    weaker D.moment D.left_since d new _ (LeavesFor (D.beside d).told changes) run (leaves_for (D.tells d) (D.reads d) (D.may_leave d) changes is (D.beside d).told)

-- from one that reads for a list, of which a crash leaves that list or another
killed : (g : _) (c : After-find_mark g) (new : _) (changes was : _) → ReadsFor (g.D.Disk.tells c.args.disk.now) (g.D.Disk.reads c.args.disk.now) (g.D.Disk.may_leave c.args.disk.now) changes → ((e : Image) → g.D.Disk.may_leave c.args.disk.now e → FilesStandFor e changes ⊎ FilesStandFor e was) → LeavesOnly g.D.Disk.moment g.D.Disk.left_since c.args.disk.now new (StartLeaves (g.D.Disk.reads c.args.disk.now) (g.D.Disk.may_leave c.args.disk.now) (g.D.Disk.beside c.args.disk.now).told) → LeavesOnly g.D.Disk.moment g.D.Disk.left_since c.args.disk.now new (LeavesEither (g.D.Disk.beside c.args.disk.now).told changes was)
killed g c new changes was is images run =
    let D = g.D.Disk in
    let d = c.args.disk.now in
    weaker D.moment D.left_since d new (StartLeaves (D.reads d) (D.may_leave d) (D.beside d).told) (LeavesEither (D.beside d).told changes was) run (leaves_killed (D.tells d) (D.reads d) (D.may_leave d) changes was is images (D.beside d).told)

pub returns-in_err-find_mark-clause-any_moment : goal.returns-in_err-find_mark-clause-any_moment
returns-in_err-find_mark-clause-any_moment g c = λ told.
    let D = g.D.Disk in
    let d = c.args.disk.now in
    weaker D.moment D.left_since d c.find_mark.new.disk _ (StartLeaves (D.reads d) (D.may_leave d) (D.beside d).told) c.find_mark.ensures.untouched.any_moment (still_left (D.reads d) (D.may_leave d) (D.beside d).told)

pub returns-in_err-find_mark-clause-stands : goal.returns-in_err-find_mark-clause-stands
returns-in_err-find_mark-clause-stands g c = λ changes is. stands g (goal.at.returns-in_err-find_mark-clause-stands g c).After-find_mark _ changes is (returns-in_err-find_mark-clause-any_moment g c is.told)

pub returns-in_err-find_mark-clause-killed : goal.returns-in_err-find_mark-clause-killed
returns-in_err-find_mark-clause-killed g c = λ changes was is images. killed g (goal.at.returns-in_err-find_mark-clause-killed g c).After-find_mark _ changes was is images (returns-in_err-find_mark-clause-any_moment g c is.told)

pub returns-in_err-find_mark-clause-started : goal.returns-in_err-find_mark-clause-started
returns-in_err-find_mark-clause-started g c = λ changes is.
    let D = g.D.Disk in
    let d = c.args.disk.now in
    let new = c.find_mark.new.disk in
    let p = err_from_is_err_and c.from_residual.result c.from_residual.ensures.1 in
    rw (p.1, p.2) (found_started c.damaged_files_stand_for_no_list.ensures (D.tells d) (D.tells new) (D.reads d) (D.reads new) (D.may_leave d) (D.may_leave new) changes c.in_err-find_mark.field-0.0 c.find_mark.ensures.untouched.telling c.find_mark.ensures.untouched.same c.find_mark.ensures.untouched.crash is (c.in_err-find_mark.ensures.answer is.told))

-- the logs are empty
empty : (g : _) (c : After-init_mark g) → IsTrue (g.D.Disk.tells c.args.disk.now) → AreLogsEmpty (g.D.Disk.reads c.args.disk.now)
empty g c told = subst (λ (f : Found). IsFound (g.D.Disk.reads c.args.disk.now) (Ok f)) c.in-Fresh.is (c.in_ok-find_mark.ensures.answer told)

-- and the first mark is made
fresh : (g : _) (c : After-init_mark g) → IsTrue (g.D.Disk.tells c.args.disk.now) → LeavesOnly g.D.Disk.moment g.D.Disk.left_since c.args.disk.now c.init_mark.new.disk (StartLeaves (g.D.Disk.reads c.args.disk.now) (g.D.Disk.may_leave c.args.disk.now) (g.D.Disk.beside c.args.disk.now).told)
fresh g c told =
    let D = g.D.Disk in
    let d = c.args.disk.now in
    let mid = c.find_mark.new.disk in
    let found = c.find_mark.ensures.untouched in
    let P = StartLeaves (D.reads d) (D.may_leave d) (D.beside d).told in
    joined D.moment D.left_since d mid c.init_mark.new.disk P _
    (weaker D.moment D.left_since d mid _ P found.any_moment (still_left (D.reads d) (D.may_leave d) (D.beside d).told)) c.init_mark.ensures.synced_first
    (synced_on (D.reads d) (D.may_leave d) (D.beside d).told (D.may_leave mid) (D.beside mid).told (ap (λ (b : Beside). b.told) found.rest) found.crash (D.reads mid) found.same (empty g c told))

pub returns-in_err-mark-in-Fresh-clause-any_moment : goal.returns-in_err-mark-in-Fresh-clause-any_moment
returns-in_err-mark-in-Fresh-clause-any_moment g c = fresh g (goal.at.returns-in_err-mark-in-Fresh-clause-any_moment g c).After-init_mark

pub returns-in_err-mark-in-Fresh-clause-stands : goal.returns-in_err-mark-in-Fresh-clause-stands
returns-in_err-mark-in-Fresh-clause-stands g c = λ changes is. stands g (goal.at.returns-in_err-mark-in-Fresh-clause-stands g c).After-find_mark _ changes is (returns-in_err-mark-in-Fresh-clause-any_moment g c is.told)

pub returns-in_err-mark-in-Fresh-clause-killed : goal.returns-in_err-mark-in-Fresh-clause-killed
returns-in_err-mark-in-Fresh-clause-killed g c = λ changes was is images. killed g (goal.at.returns-in_err-mark-in-Fresh-clause-killed g c).After-find_mark _ changes was is images (returns-in_err-mark-in-Fresh-clause-any_moment g c is.told)

pub returns-in_err-mark-in-Fresh-clause-started : goal.returns-in_err-mark-in-Fresh-clause-started
returns-in_err-mark-in-Fresh-clause-started g c = λ changes is.
    let D = g.D.Disk in
    let d = c.args.disk.now in
    let mid = c.find_mark.new.disk in
    let new = c.init_mark.new.disk in
    let logs = empty g (goal.at.returns-in_err-mark-in-Fresh-clause-started g c).After-init_mark is.told in
    let p = err_from_is_err_and c.from_residual-in_err-mark-in-Fresh.result c.from_residual-in_err-mark-in-Fresh.ensures.1 in
    rw (p.1, p.2) (still_empty (D.tells new) (D.reads d) (D.reads mid) (D.reads new) (D.may_leave new) changes (c.init_mark.ensures.tells ∙ c.find_mark.ensures.untouched.telling ∙ is.told) logs (none_kept (D.tells d) (D.reads d) (D.may_leave d) changes is logs) c.find_mark.ensures.untouched.same c.init_mark.ensures.others)

pub returns-in_ok-boot-in-Fresh-clause-answer : goal.returns-in_ok-boot-in-Fresh-clause-answer
returns-in_ok-boot-in-Fresh-clause-answer g c = λ told.
    let none = empty g (goal.at.returns-in_ok-boot-in-Fresh-clause-answer g c).After-init_mark told in
    first_start (g.D.Disk.reads c.args.disk.now) c.resume.result c.in_ok-mark-in-Fresh.mark c.in_ok-boot-in-Fresh.field-0 c.empty.result c.at.result none c.resume.ensures c.in_ok-boot-in-Fresh.ensures.state c.in_ok-boot-in-Fresh.ensures.places c.empty.ensures.of c.at.ensures

pub returns-in_ok-boot-in-Fresh-clause-any_moment : goal.returns-in_ok-boot-in-Fresh-clause-any_moment
returns-in_ok-boot-in-Fresh-clause-any_moment g c = fresh g (goal.at.returns-in_ok-boot-in-Fresh-clause-any_moment g c).After-init_mark

pub returns-in_ok-boot-in-Fresh-clause-stands : goal.returns-in_ok-boot-in-Fresh-clause-stands
returns-in_ok-boot-in-Fresh-clause-stands g c = λ changes is. stands g (goal.at.returns-in_ok-boot-in-Fresh-clause-stands g c).After-find_mark _ changes is (returns-in_ok-boot-in-Fresh-clause-any_moment g c is.told)

pub returns-in_ok-boot-in-Fresh-clause-killed : goal.returns-in_ok-boot-in-Fresh-clause-killed
returns-in_ok-boot-in-Fresh-clause-killed g c = λ changes was is images. killed g (goal.at.returns-in_ok-boot-in-Fresh-clause-killed g c).After-find_mark _ changes was is images (returns-in_ok-boot-in-Fresh-clause-any_moment g c is.told)

pub returns-in_ok-boot-in-Fresh-clause-started : goal.returns-in_ok-boot-in-Fresh-clause-started
returns-in_ok-boot-in-Fresh-clause-started g c = λ changes is.
    let D = g.D.Disk in
    let d = c.args.disk.now in
    let new = c.init_mark.new.disk in
    let made = c.in_ok-mark-in-Fresh in
    let told = c.find_mark.ensures.untouched.telling ∙ is.told in
    let none = none_kept (D.tells d) (D.reads d) (D.may_leave d) changes is (empty g (goal.at.returns-in_ok-boot-in-Fresh-clause-started g c).After-init_mark is.told) in
    first_keeps (D.tells new) (D.reads new) (D.may_leave new) changes (c.init_mark.ensures.tells ∙ told) none made.ensures.durable c.resume.result made.mark c.in_ok-boot-in-Fresh.field-0 c.empty.result c.at.result c.resume.ensures made.ensures.first c.in_ok-boot-in-Fresh.ensures.state c.in_ok-boot-in-Fresh.ensures.places c.empty.ensures.of (made.ensures.valid told) c.at.ensures

pub returns-in_ok-boot-in-Fresh-clause-settled : goal.returns-in_ok-boot-in-Fresh-clause-settled
returns-in_ok-boot-in-Fresh-clause-settled g c = settled_first c.resume.result c.in_ok-mark-in-Fresh.mark c.at.result c.in_ok-boot-in-Fresh.field-0 c.empty.result c.resume.ensures c.at.ensures

pub returns-in_ok-boot-in-Fresh-clause-whole : goal.returns-in_ok-boot-in-Fresh-clause-whole
returns-in_ok-boot-in-Fresh-clause-whole g c = λ told. whole_first (g.D.Disk.reads c.init_mark.new.disk) c.resume.result c.in_ok-mark-in-Fresh.mark c.at.result c.in_ok-boot-in-Fresh.field-0 c.empty.result c.resume.ensures c.at.ensures

pub returns-in_ok-boot-in-Fresh-clause-others : goal.returns-in_ok-boot-in-Fresh-clause-others
returns-in_ok-boot-in-Fresh-clause-others g c = λ other no_mark. c.init_mark.ensures.others other no_mark ∙ c.find_mark.ensures.untouched.same other

-- there is no memory for the classes
pub returns-in_err-boot-in-Fresh-clause-any_moment : goal.returns-in_err-boot-in-Fresh-clause-any_moment
returns-in_err-boot-in-Fresh-clause-any_moment g c = fresh g (goal.at.returns-in_err-boot-in-Fresh-clause-any_moment g c).After-init_mark

pub returns-in_err-boot-in-Fresh-clause-stands : goal.returns-in_err-boot-in-Fresh-clause-stands
returns-in_err-boot-in-Fresh-clause-stands g c = λ changes is. stands g (goal.at.returns-in_err-boot-in-Fresh-clause-stands g c).After-find_mark _ changes is (returns-in_err-boot-in-Fresh-clause-any_moment g c is.told)

pub returns-in_err-boot-in-Fresh-clause-killed : goal.returns-in_err-boot-in-Fresh-clause-killed
returns-in_err-boot-in-Fresh-clause-killed g c = λ changes was is images. killed g (goal.at.returns-in_err-boot-in-Fresh-clause-killed g c).After-find_mark _ changes was is images (returns-in_err-boot-in-Fresh-clause-any_moment g c is.told)

pub returns-in_err-boot-in-Fresh-clause-started : goal.returns-in_err-boot-in-Fresh-clause-started
returns-in_err-boot-in-Fresh-clause-started g c = λ changes is.
    let D = g.D.Disk in
    let d = c.args.disk.now in
    let new = c.init_mark.new.disk in
    let made = c.in_ok-mark-in-Fresh in
    let told = c.find_mark.ensures.untouched.telling ∙ is.told in
    let none = none_kept (D.tells d) (D.reads d) (D.may_leave d) changes is (empty g (goal.at.returns-in_err-boot-in-Fresh-clause-started g c).After-init_mark is.told) in
    let p = err_from_is_err_and c.from_residual-in_err-boot-in-Fresh.result c.from_residual-in_err-boot-in-Fresh.ensures.1 in
    rw (p.1, p.2) (first_stands (D.tells new) (D.reads new) (D.may_leave new) changes (c.init_mark.ensures.tells ∙ told) none made.ensures.durable made.mark made.ensures.first (made.ensures.valid told))

-- a mark is found
has : (g : _) (c : After-resume-in-Mark g) → IsTrue (g.D.Disk.tells c.args.disk.now) → HasMark (g.D.Disk.reads c.args.disk.now) c.in-Mark.mark
has g c told = subst (λ (f : Found). IsFound (g.D.Disk.reads c.args.disk.now) (Ok f)) c.in-Mark.is (c.in_ok-find_mark.ensures.answer told)

resumed : (g : _) (c : After-resume-in-Mark g) → IsTrue (g.D.Disk.tells c.args.disk.now) → IsStart (g.D.Disk.reads c.args.disk.now) c.resume-in-Mark.result
resumed g c told =
    let D = g.D.Disk in
    let found = c.find_mark.ensures.untouched in
    let same : D.reads c.find_mark.new.disk ≡ D.reads c.args.disk.now = λ i file. found.same file i in
    let Has : Image → Type 0 = λ r. HasMark r c.in-Mark.mark in
    let Starts : Image → Type 0 = λ r. IsStart r c.resume-in-Mark.result in
    subst Starts same (c.resume-in-Mark.ensures.answer (found.telling ∙ told) (subst Has (sym same) (has g c told)))

pub returns-in-Mark-clause-answer : goal.returns-in-Mark-clause-answer
returns-in-Mark-clause-answer g c = resumed g (goal.at.returns-in-Mark-clause-answer g c).After-resume-in-Mark

pub returns-in-Mark-clause-any_moment : goal.returns-in-Mark-clause-any_moment
returns-in-Mark-clause-any_moment g c = λ told.
    let D = g.D.Disk in
    let d = c.args.disk.now in
    let mid = c.find_mark.new.disk in
    let found = c.find_mark.ensures.untouched in
    let P = StartLeaves (D.reads d) (D.may_leave d) (D.beside d).told in
    joined D.moment D.left_since d mid c.resume-in-Mark.new.disk P _
    (weaker D.moment D.left_since d mid _ P found.any_moment (still_left (D.reads d) (D.may_leave d) (D.beside d).told)) c.resume-in-Mark.ensures.untouched.any_moment
    (left_on (D.reads d) (D.may_leave d) (D.beside d).told (D.may_leave mid) (D.beside mid).told (ap (λ (b : Beside). b.told) found.rest) found.crash)

pub returns-in-Mark-clause-stands : goal.returns-in-Mark-clause-stands
returns-in-Mark-clause-stands g c = λ changes is. stands g (goal.at.returns-in-Mark-clause-stands g c).After-find_mark _ changes is (returns-in-Mark-clause-any_moment g c is.told)

pub returns-in-Mark-clause-killed : goal.returns-in-Mark-clause-killed
returns-in-Mark-clause-killed g c = λ changes was is images. killed g (goal.at.returns-in-Mark-clause-killed g c).After-find_mark _ changes was is images (returns-in-Mark-clause-any_moment g c is.told)

pub returns-in-Mark-clause-started : goal.returns-in-Mark-clause-started
returns-in-Mark-clause-started g c = λ changes is.
    let D = g.D.Disk in
    let d = c.args.disk.now in
    let new = c.resume-in-Mark.new.disk in
    let run = (goal.at.returns-in-Mark-clause-started g c).After-resume-in-Mark in
    let after = c.resume-in-Mark.ensures in
    let same_reads : D.reads d ≡ D.reads new = λ i file. sym (after.untouched.same file ∙ c.find_mark.ensures.untouched.same file) i in
    let same_tells = sym (after.untouched.telling ∙ c.find_mark.ensures.untouched.telling) in
    let P : Bool → Image → Type 0 = λ t r. Started c.resume-in-Mark.result t r (D.may_leave new) changes in
    subst (P (D.tells new)) same_reads (subst (λ t. P t (D.reads d)) same_tells (
    started_mark (D.tells d) (D.reads d) (D.may_leave d) (D.may_leave new) c.in-Mark.mark changes (has g run is.told) is (λ image left. c.find_mark.ensures.untouched.crash image (after.untouched.crash image left)) (λ image left. c.in_ok-find_mark.ensures.durable image (after.untouched.crash image left))
    c.damaged_files_stand_for_no_list.ensures c.resume-in-Mark.result (resumed g run is.told) after.keeper))

pub returns-in-Mark-clause-settled : goal.returns-in-Mark-clause-settled
returns-in-Mark-clause-settled g c = settled_mark c.resume-in-Mark.result c.in-Mark.mark c.resume-in-Mark.ensures.keeper

pub returns-in-Mark-clause-whole : goal.returns-in-Mark-clause-whole
returns-in-Mark-clause-whole g c = λ told.
    let D = g.D.Disk in
    let run = (goal.at.returns-in-Mark-clause-whole g c).After-resume-in-Mark in
    let after = c.resume-in-Mark.ensures in
    let same : D.reads c.args.disk.now ≡ D.reads c.resume-in-Mark.new.disk = λ i file. sym (after.untouched.same file ∙ c.find_mark.ensures.untouched.same file) i in
    let Whole : Image → Type 0 = λ r. IfOk c.resume-in-Mark.result (λ keeper. keeper.log.end ≤ length (r (log_file keeper.log.number))) in
    subst Whole same (whole_mark (D.reads c.args.disk.now) c.in-Mark.mark c.resume-in-Mark.result (has g run told) (resumed g run told) after.keeper)
