use Rattle.std.proofs.Common.{◌≡◌, ◌<◌, ◌≤◌, ℕ, List, length, take, drop, Err, IsTrue, arith, ap, subst, ◌∙◌}
use Rattle.std.proofs.lemmas.Result.{err_from_is_err_and}
use Rattle.s80_disk.specs.Image.{Image}
use Rattle.s80_disk.specs.Untouched.{IsUntouched}
use Rattle.s80_log.specs.Log.{LogEnd, log_file, held_in}
use Rattle.s80_log.specs.Standing.{marked_part}
use Rattle.s80_keeper.specs.declared.start.Damage.TheVariants.{BadBlock}
use Rattle.s80_keeper.specs.declared.start.StartFault.TheVariants.{Damaged}
use Rattle.s80_keeper.specs.declared.begin.Begun.{Begun}
use Rattle.s80_keeper.specs.Beginning.{Beginning}
use Rattle.s80_keeper.specs.Keeper.{KeeperState}
use Rattle.s80_keeper.specs.Reading.{AreReplayed, BeginsSo, HasBegun, IsBegun}
use Rattle.s80_keeper.specs.Start.{log_length}
use Rattle.s80_keeper.proofs.ReadTwice.{read_twice}
use Rattle.s80_keeper.proofs.Resumed.{resumed_start, unbegun_start, uncounted_start, unreplayed_start}
use Rattle.s80_keeper.proofs.keeper.Keeper.resume.Goals as goal
use Rattle.s80_keeper.proofs.keeper.Keeper.resume.Goals.{After-begin, After-replay}

-- the log is long enough
long : (g : _) (c : After-begin g) → IsTrue (g.D.Disk.tells c.args.disk.now) → c.args.mark.log_length ≤ log_length (g.D.Disk.reads c.args.disk.now) c.args.mark
long g c told =
    let P : LogEnd → Type 0 = λ l. l.end ≤ length (g.D.Disk.reads c.args.disk.now (log_file l.number)) in
    subst P c.resume-log.ensures (c.in_ok-check_length.ensures.answer told)

-- the same of the disk after the length is checked
long_still : (g : _) (c : After-begin g) → IsTrue (g.D.Disk.tells c.args.disk.now) → c.resume-log.result.end ≤ length (g.D.Disk.reads c.check_length.new.disk (log_file c.resume-log.result.number))
long_still g c told = omega (arith, ap length (c.check_length.ensures.untouched.same (log_file c.resume-log.result.number)), c.in_ok-check_length.ensures.answer told)

-- what is begun with, by the files as they were
begun_so : (g : _) (c : After-begin g) → IsTrue (g.D.Disk.tells c.args.disk.now) → IsBegun (g.D.Disk.reads c.args.disk.now) c.args.mark c.begin.result
begun_so g c told =
    let checked = c.check_length.ensures.untouched in
    let same : g.D.Disk.reads c.check_length.new.disk ≡ g.D.Disk.reads c.args.disk.now = λ i file. checked.same file i in
    let P : Image → Type 0 = λ r. IsBegun r c.args.mark c.begin.result in
    subst P same (c.begin.ensures.answer (checked.telling ∙ told) (long_still g c told))

pub returns-in_err-begun-clause-answer : goal.returns-in_err-begun-clause-answer
returns-in_err-begun-clause-answer g c = λ told has.
    let run = (goal.at.returns-in_err-begun-clause-answer g c).After-begin in
    let fault = c.in_err-begun.field-0.0 in
    let is = subst (IsBegun (g.D.Disk.reads c.args.disk.now) c.args.mark) c.in_err-begun.was (begun_so g run told) in
    let p = err_from_is_err_and c.from_residual-in_err-begun.result c.from_residual-in_err-begun.ensures.1 in
    rw (p.1, p.2) (unbegun_start (g.D.Disk.reads c.args.disk.now) c.args.mark has (long g run told) fault is)

-- what is replayed, by the files as they were
so : (g : _) (c : After-replay g) → IsTrue (g.D.Disk.tells c.args.disk.now) → BeginsSo (g.D.Disk.reads c.args.disk.now) c.args.mark c.in_ok-begun.begun
so g c told = subst (IsBegun (g.D.Disk.reads c.args.disk.now) c.args.mark) c.in_ok-begun.was (begun_so g (goal.at.After-replay g c).After-begin told)

past : (g : _) (c : After-replay g) → c.args.mark.log_length < c.in_ok-begun.begun.at → c.replay.result ≡ Err (Damaged (BadBlock c.in_ok-begun.begun.at))
past g c over = c.replay.ensures.behind (omega (arith, over, ap (λ (l : LogEnd). l.end) c.resume-log.ensures))

answer : (g : _) (c : After-replay g) → IsTrue (g.D.Disk.tells c.args.disk.now) → (from : Beginning) → HasBegun from c.in_ok-begun.begun → from.position ≤ c.args.mark.log_length
    → AreReplayed from c.in_ok-begun.begun.history (drop from.position (marked_part c.args.mark (g.D.Disk.reads c.args.disk.now))) c.replay.result
answer g c told from has reached =
    let log = c.resume-log.result in
    let checked = c.check_length.ensures.untouched in
    let begun = c.begin.ensures.untouched in
    let same = begun.same (log_file log.number) ∙ checked.same (log_file log.number) in
    let part : held_in (g.D.Disk.reads c.begin.new.disk) log ≡ marked_part c.args.mark (g.D.Disk.reads c.args.disk.now) = ap (take log.end) same ∙ ap (held_in (g.D.Disk.reads c.args.disk.now)) c.resume-log.ensures in
    let long_now : log.end ≤ length (g.D.Disk.reads c.begin.new.disk (log_file log.number)) = omega (arith, ap length same, c.in_ok-check_length.ensures.answer told) in
    let P : List ℕ → Type 0 = λ bytes. AreReplayed from c.in_ok-begun.begun.history (drop from.position bytes) c.replay.result in
    subst P part (c.replay.ensures.answer from has (begun.telling ∙ checked.telling ∙ told) long_now (omega (arith, reached, ap (λ (l : LogEnd). l.end) c.resume-log.ensures)))

pub returns-in_err-replayed-clause-answer : goal.returns-in_err-replayed-clause-answer
returns-in_err-replayed-clause-answer g c = λ told has.
    let at = goal.at.returns-in_err-replayed-clause-answer g c in
    let run = at.After-replay in
    let fault = c.in_err-replayed.field-0.0 in
    let p = err_from_is_err_and c.from_residual-in_err-replayed.result c.from_residual-in_err-replayed.ensures.1 in
    rw (p.1, p.2) (unreplayed_start (g.D.Disk.reads c.args.disk.now) c.args.mark has (long g at.After-begin told) c.in_ok-begun.begun (so g run told) c.replay.result (past g run) (answer g run told) fault c.in_err-replayed.was)

pub returns-in_err-reached-clause-answer : goal.returns-in_err-reached-clause-answer
returns-in_err-reached-clause-answer g c = λ told has.
    let at = goal.at.returns-in_err-reached-clause-answer g c in
    let run = at.After-replay in
    let fault = c.in_err-reached.field-0.0 in
    let p = err_from_is_err_and c.from_residual-in_err-reached.result c.from_residual-in_err-reached.ensures.1 in
    rw (p.1, p.2) (uncounted_start (g.D.Disk.reads c.args.disk.now) c.args.mark has (long g at.After-begin told) c.in_ok-begun.begun (so g run told) c.replay.result (past g run) (answer g run told) c.in_ok-replayed.replayed c.in_ok-replayed.was fault c.in_err-reached.ensures.checked)

pub returns-clause-answer : goal.returns-clause-answer
returns-clause-answer g c = λ told has.
    let at = goal.at.returns-clause-answer g c in
    let run = at.After-replay in
    let keeper = c.at.ensures in
    let same : c.in_ok-reached.reached ≡ c.in_ok-replayed.replayed = c.in_ok-reached.ensures.same in
    resumed_start (g.D.Disk.reads c.args.disk.now) c.args.mark has (long g at.After-begin told) c.in_ok-begun.begun (so g run told) c.replay.result (past g run) (answer g run told) c.lists_begin_with_a_front.ensures c.in_ok-replayed.replayed c.in_ok-replayed.was c.at.result
    (ap (λ (k : KeeperState). k.log) keeper ∙ c.resume-log.ensures) (ap (λ (k : KeeperState). k.system) keeper ∙ ap (λ (b : Begun). b.system) same) (ap (λ (k : KeeperState). k.history) keeper ∙ ap (λ (b : Begun). b.history) same)
    (ap (λ (k : KeeperState). k.count) keeper ∙ ap (λ (b : Begun). b.count) same) c.in_ok-reached.ensures.checked

-- the three calls that read the disk
untouched : (g : _) (c : After-replay g) → IsUntouched g.D.Disk.tells g.D.Disk.reads g.D.Disk.may_leave g.D.Disk.moment g.D.Disk.left_since g.D.Disk.beside g.D.Disk.disk_faults c.args.disk.now c.replay.new.disk
untouched g c =
    let D = g.D.Disk in
    let d = c.args.disk.now in
    let begun = read_twice D.tells D.reads D.may_leave D.moment D.left_since D.beside D.disk_faults d c.check_length.new.disk c.begin.new.disk c.check_length.ensures.untouched c.begin.ensures.untouched in
    read_twice D.tells D.reads D.may_leave D.moment D.left_since D.beside D.disk_faults d c.begin.new.disk c.replay.new.disk begun c.replay.ensures.untouched

pub returns-in_err-reached-clause-untouched : goal.returns-in_err-reached-clause-untouched
returns-in_err-reached-clause-untouched g c = untouched g (goal.at.returns-in_err-reached-clause-untouched g c).After-replay

pub returns-clause-untouched : goal.returns-clause-untouched
returns-clause-untouched g c = untouched g (goal.at.returns-clause-untouched g c).After-replay
