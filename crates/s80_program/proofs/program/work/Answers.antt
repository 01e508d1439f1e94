use Rattle.std.proofs.Common.{◌≡◌, ◌⊎◌, inr, ⊎_elim, ◌<◌, List, Option, ℕ, ap, refl, sym, subst, ◌∙◌}
use Rattle.std.proofs.lemmas.Result.{err_from_is_err_and}
use Rattle.s80_change.specs.declared.change.Change.{Change}
use Rattle.s80_disk.specs.Image.{Image}
use Rattle.s80_disk.specs.Moments.{LeavesOnly}
use Rattle.s80_disk.specs.Shown.{Shown}
use Rattle.s80_mark.specs.Found.{longer_log}
use Rattle.s80_keeper.specs.declared.start.Damage.{Damage}
use Rattle.s80_keeper.specs.Standing.{FilesStandFor, StandsFor}
use Rattle.s80_keeper.specs.Start.{IsDamage}
use Rattle.s80_keeper.proofs.lemmas.Damages.{damaged_has_log}
use Rattle.s80_session.specs.Session.{keeper_of}
use Rattle.s80_program.specs.Command.{job_of, settings_of}
use Rattle.s80_program.specs.Leaves.{AreDamaged, CommandKeeps, KeepsFor, KilledKeeps, Leaves, StartsWith, beginning}
use Rattle.s80_program.specs.Ending.{status_after}
use Rattle.s80_program.specs.Task.{command_of}
use Rattle.s80_program.specs.Words.{options_in}
use Rattle.s80_program.proofs.Beginning.{starts_on, stands_on, reads_on, lost_at_start, no_session, chosen, chosen_either, goes_on, goes_on_either, session_begins, begins_either, damaged_lasts, tells_damage, damage_found, unchanged}
use Rattle.s80_program.proofs.Ends.{reason_err, later_reason, starts_reason, undamaged, never_usage, disk_undamaged, disk_tells}
use Rattle.s80_program.proofs.program.work.Goals as goal
use Rattle.s80_program.proofs.program.work.Goals.{After-open_folder, After-start}

pub returns-in_err-open_folder-clause-worked : goal.returns-in_err-open_folder-clause-worked
returns-in_err-open_folder-clause-worked g c = λ changes input before start.
    let p = err_from_is_err_and c.from_residual.result c.from_residual.ensures.1 in
    let same = c.open_folder.ensures.shown in
    let reads = reads_on (g.O.Outside.shown c.args.outside.now) (g.O.Outside.shown c.open_folder.new.outside) same (g.O.Disk.may_leave c.args.outside.now) (g.O.Disk.may_leave c.open_folder.new.outside) c.open_folder.ensures.images changes start.reads in
    rw (p.1, p.2) (lost_at_start (job_of (command_of c.args.task)) _ (g.O.Disk.may_leave c.open_folder.new.outside) (g.O.Outside.shown c.open_folder.new.outside) (beginning (options_in c.args.line.now) (g.O.Outside.shown c.args.outside.now).seconds changes) input before c.in_err-open_folder.ensures.disk reads (ap (λ (o : Shown). o.left) same ∙ start.left) (ap (λ (o : Shown). o.taken) same ∙ start.taken))

-- the folder is chosen
opened : (g : _) (c : After-open_folder g) (changes : List Change) (input before : List ℕ) → StartsWith (g.O.Disk.may_leave c.args.outside.now) (g.O.Outside.shown c.args.outside.now) changes input before → StandsFor (g.O.Outside.shown c.args.outside.now).tells (g.O.Outside.shown c.args.outside.now).files (g.O.Disk.may_leave c.args.outside.now) changes → LeavesOnly g.O.Disk.moment g.O.Disk.left_since c.args.outside.now c.open_folder.new.outside (KeepsFor (job_of (command_of c.args.task)) (beginning (options_in c.args.line.now) (g.O.Outside.shown c.args.outside.now).seconds changes) input before)
opened g c changes input before start stands = chosen g.O.Disk.moment g.O.Disk.left_since (job_of (command_of c.args.task)) (beginning (options_in c.args.line.now) (g.O.Outside.shown c.args.outside.now).seconds changes) input before _ _ _ _ c.args.outside.now c.open_folder.new.outside stands start.told c.open_folder.ensures.any_moment

pub returns-in_err-open_folder-clause-any_moment : goal.returns-in_err-open_folder-clause-any_moment
returns-in_err-open_folder-clause-any_moment g c = opened g (goal.at.returns-in_err-open_folder-clause-any_moment g c).After-open_folder

-- also behind a run that was killed
opened_either : (g : _) (c : After-open_folder g) (changes was : List Change) (input before : List ℕ) → StartsWith (g.O.Disk.may_leave c.args.outside.now) (g.O.Outside.shown c.args.outside.now) changes input before → ((e : Image) → g.O.Disk.may_leave c.args.outside.now e → FilesStandFor e changes ⊎ FilesStandFor e was) → LeavesOnly g.O.Disk.moment g.O.Disk.left_since c.args.outside.now c.open_folder.new.outside (KilledKeeps (command_of c.args.task) (beginning (options_in c.args.line.now) (g.O.Outside.shown c.args.outside.now).seconds changes) was input before)
opened_either g c changes was input before start either = chosen_either g.O.Disk.moment g.O.Disk.left_since (job_of (command_of c.args.task)) (beginning (options_in c.args.line.now) (g.O.Outside.shown c.args.outside.now).seconds changes) was input before (g.O.Disk.may_leave c.args.outside.now) _ c.args.outside.now c.open_folder.new.outside either start.told c.open_folder.ensures.any_moment

pub returns-in_err-open_folder-clause-killed : goal.returns-in_err-open_folder-clause-killed
returns-in_err-open_folder-clause-killed g c = opened_either g (goal.at.returns-in_err-open_folder-clause-killed g c).After-open_folder

pub returns-in_err-open_folder-clause-found : goal.returns-in_err-open_folder-clause-found
returns-in_err-open_folder-clause-found g c = λ is tells.
    let p = err_from_is_err_and c.from_residual.result c.from_residual.ensures.1 in
    absurd (disk_undamaged _ c.in_err-open_folder.ensures.disk (rw (p.1, p.2) at is))

pub returns-in_err-open_folder-clause-damaged : goal.returns-in_err-open_folder-clause-damaged
returns-in_err-open_folder-clause-damaged g c = λ damage tells h.
    let p = err_from_is_err_and c.from_residual.result c.from_residual.ensures.1 in
    let same = c.open_folder.ensures.shown in
    (rw (p.1, p.2) (disk_tells _ c.in_err-open_folder.ensures.disk), same, c.open_folder.ensures.any_moment)

pub returns-in_err-open_folder-clause-reason : goal.returns-in_err-open_folder-clause-reason
returns-in_err-open_folder-clause-reason g c =
    let p = err_from_is_err_and c.from_residual.result c.from_residual.ensures.1 in
    rw (p.1, p.2) (reason_err _ _ _ c.in_err-open_folder.ensures.counts.reason)

pub returns-in_err-open_folder-clause-useful : goal.returns-in_err-open_folder-clause-useful
returns-in_err-open_folder-clause-useful g c = never_usage _

-- a session starts in it
module _ (g : _) (c : After-start g) where
  -- the clock tells what it told before
  same_time : (g.O.Outside.shown c.start.new.outside).seconds ≡ (g.O.Outside.shown c.args.outside.now).seconds
  same_time = ap (λ (o : Shown). o.seconds) c.start.ensures.shown ∙ ap (λ (o : Shown). o.seconds) c.open_folder.ensures.shown

  starts_mid : (changes : List Change) (input before : List ℕ) → StartsWith (g.O.Disk.may_leave c.args.outside.now) (g.O.Outside.shown c.args.outside.now) changes input before → StartsWith (g.O.Disk.may_leave c.open_folder.new.outside) (g.O.Outside.shown c.open_folder.new.outside) changes input before
  starts_mid changes input before start = starts_on (g.O.Outside.shown c.args.outside.now) (g.O.Outside.shown c.open_folder.new.outside) c.open_folder.ensures.shown (g.O.Disk.may_leave c.args.outside.now) (g.O.Disk.may_leave c.open_folder.new.outside) c.open_folder.ensures.images changes input before start

  started : (changes : List Change) (input before : List ℕ) → StartsWith (g.O.Disk.may_leave c.args.outside.now) (g.O.Outside.shown c.args.outside.now) changes input before → StandsFor (g.O.Outside.shown c.args.outside.now).tells (g.O.Outside.shown c.args.outside.now).files (g.O.Disk.may_leave c.args.outside.now) changes → LeavesOnly g.O.Disk.moment g.O.Disk.left_since c.args.outside.now c.start.new.outside (KeepsFor (job_of (command_of c.args.task)) (beginning (options_in c.args.line.now) (g.O.Outside.shown c.args.outside.now).seconds changes) input before)
  started changes input before start stands =
      goes_on g.O.Disk.moment g.O.Disk.left_since (job_of (command_of c.args.task)) (beginning (options_in c.args.line.now) (g.O.Outside.shown c.args.outside.now).seconds changes) input before c.args.outside.now c.open_folder.new.outside c.start.new.outside
      (chosen g.O.Disk.moment g.O.Disk.left_since (job_of (command_of c.args.task)) (beginning (options_in c.args.line.now) (g.O.Outside.shown c.args.outside.now).seconds changes) input before _ _ _ _ c.args.outside.now c.open_folder.new.outside stands start.told c.open_folder.ensures.any_moment)
      (session_begins g.O.Disk.moment g.O.Disk.left_since (job_of (command_of c.args.task)) (beginning (options_in c.args.line.now) (g.O.Outside.shown c.args.outside.now).seconds changes) input before _ c.open_folder.new.outside c.start.new.outside (starts_mid changes input before start).told (c.start.ensures.any_moment changes (stands_on (g.O.Outside.shown c.args.outside.now) (g.O.Outside.shown c.open_folder.new.outside) c.open_folder.ensures.shown (g.O.Disk.may_leave c.args.outside.now) (g.O.Disk.may_leave c.open_folder.new.outside) c.open_folder.ensures.images changes stands)))

  started_either : (changes was : List Change) (input before : List ℕ) → StartsWith (g.O.Disk.may_leave c.args.outside.now) (g.O.Outside.shown c.args.outside.now) changes input before → ((e : Image) → g.O.Disk.may_leave c.args.outside.now e → FilesStandFor e changes ⊎ FilesStandFor e was) → LeavesOnly g.O.Disk.moment g.O.Disk.left_since c.args.outside.now c.start.new.outside (KilledKeeps (command_of c.args.task) (beginning (options_in c.args.line.now) (g.O.Outside.shown c.args.outside.now).seconds changes) was input before)
  started_either changes was input before start either =
      let mid = starts_mid changes input before start in
      begins_either g.O.Disk.moment g.O.Disk.left_since (job_of (command_of c.args.task)) (beginning (options_in c.args.line.now) (g.O.Outside.shown c.args.outside.now).seconds changes) was input before _ c.args.outside.now c.open_folder.new.outside c.start.new.outside mid.told
      (chosen_either g.O.Disk.moment g.O.Disk.left_since (job_of (command_of c.args.task)) (beginning (options_in c.args.line.now) (g.O.Outside.shown c.args.outside.now).seconds changes) was input before (g.O.Disk.may_leave c.args.outside.now) _ c.args.outside.now c.open_folder.new.outside either start.told c.open_folder.ensures.any_moment)
      (c.start.ensures.killed changes was mid.reads (λ e left. either e (c.open_folder.ensures.images e left)))

pub returns-in_err-session-clause-killed : goal.returns-in_err-session-clause-killed
returns-in_err-session-clause-killed g c = started_either g (goal.at.returns-in_err-session-clause-killed g c).After-start

pub returns-in_err-session-clause-worked : goal.returns-in_err-session-clause-worked
returns-in_err-session-clause-worked g c = λ changes input before start.
    let p = err_from_is_err_and c.from_residual-in_err-session.result c.from_residual-in_err-session.ensures.1 in
    let at = starts_mid g (goal.at.returns-in_err-session-clause-worked g c).After-start changes input before start in
    let same = c.start.ensures.shown in
    rw (p.1, p.2) (no_session (job_of (command_of c.args.task)) _ (g.O.Disk.may_leave c.start.new.outside) (g.O.Outside.shown c.start.new.outside) (settings_of (options_in c.args.line.now) (g.O.Outside.shown c.args.outside.now).seconds) changes input before (c.in_err-session.ensures.started (settings_of (options_in c.args.line.now) (g.O.Outside.shown c.args.outside.now).seconds) changes before refl refl (sym (ap (λ (o : Shown). o.seconds) c.open_folder.ensures.shown)) at.reads at.taken at.told) (ap (λ (o : Shown). o.left) same ∙ at.left) (ap (λ (o : Shown). o.taken) same ∙ at.taken))

pub returns-in_err-session-clause-any_moment : goal.returns-in_err-session-clause-any_moment
returns-in_err-session-clause-any_moment g c = started g (goal.at.returns-in_err-session-clause-any_moment g c).After-start

pub returns-in_err-session-clause-found : goal.returns-in_err-session-clause-found
returns-in_err-session-clause-found g c = λ is tells.
    let p = err_from_is_err_and c.from_residual-in_err-session.result c.from_residual-in_err-session.ensures.1 in
    let same = c.open_folder.ensures.shown in
    subst AreDamaged (ap (λ (o : Shown). o.files) same) (damage_found (g.O.Outside.shown c.open_folder.new.outside).files c.in_err-session.field-0.0 (rw (p.1, p.2) at is) (c.in_err-session.ensures.answer (ap (λ (o : Shown). o.tells) same ∙ tells)))

pub returns-in_err-session-clause-damaged : goal.returns-in_err-session-clause-damaged
returns-in_err-session-clause-damaged g c = λ damage tells h.
    let p = err_from_is_err_and c.from_residual-in_err-session.result c.from_residual-in_err-session.ensures.1 in
    let same = c.open_folder.ensures.shown in
    let told = ap (λ (o : Shown). o.tells) same ∙ tells in
    let P : Image → Type 0 = λ files. IsDamage files damage in
    let damaged = subst P (sym (ap (λ (o : Shown). o.files) same)) h in
    (rw (p.1, p.2) (tells_damage (g.O.Outside.shown c.open_folder.new.outside).files c.in_err-session.field-0.0 (c.in_err-session.ensures.answer told)), unchanged (g.O.Outside.shown c.args.outside.now) (g.O.Outside.shown c.open_folder.new.outside) (g.O.Outside.shown c.start.new.outside) same c.start.ensures.shown (c.start.ensures.untouched told (damaged_has_log (g.O.Outside.shown c.open_folder.new.outside).files damage damaged)), damaged_lasts g.O.Disk.moment g.O.Disk.left_since (g.O.Outside.shown c.open_folder.new.outside).files damage _ (g.O.Disk.may_leave c.open_folder.new.outside) _ _ c.args.outside.now c.open_folder.new.outside c.start.new.outside damaged c.open_folder.ensures.images (ap (λ (o : Shown). o.told) same) c.open_folder.ensures.any_moment (c.start.ensures.leaves told))

pub returns-in_err-session-clause-reason : goal.returns-in_err-session-clause-reason
returns-in_err-session-clause-reason g c =
    let p = err_from_is_err_and c.from_residual-in_err-session.result c.from_residual-in_err-session.ensures.1 in
    rw (p.1, p.2) (starts_reason _ _ _ _ c.in_ok-open_folder.ensures.counts.reason c.in_err-session.ensures.reason)

pub returns-in_err-session-clause-useful : goal.returns-in_err-session-clause-useful
returns-in_err-session-clause-useful g c = never_usage _

pub returns-clause-worked : goal.returns-clause-worked
returns-clause-worked g c = λ changes input before start.
    let after = (goal.at.returns-clause-worked g c).After-start in
    let at = starts_mid g after changes input before start in
    let same = c.start.ensures.shown in
    let seconds = ap (λ (o : Shown). o.seconds) same in
    let P : Option ℕ → Type 0 = λ m. Leaves (command_of c.args.task) (status_after c.do_task.result) (g.O.Disk.may_leave c.do_task.new.outside) (g.O.Outside.shown c.do_task.new.outside) (beginning (options_in c.args.line.now) m changes) input before in
    subst P (same_time g after) (c.do_task.ensures.worked (options_in c.args.line.now) changes input before (ap (λ (o : Shown). o.left) same ∙ at.left) c.in_ok-session.ensures.untroubled c.in_ok-session.ensures.begun.last_run (c.in_ok-session.ensures.started (settings_of (options_in c.args.line.now) (g.O.Outside.shown c.start.new.outside).seconds) changes before refl refl seconds at.reads at.taken at.told))

pub returns-clause-any_moment : goal.returns-clause-any_moment
returns-clause-any_moment g c = λ changes input before start stands.
    let after = (goal.at.returns-clause-any_moment g c).After-start in
    let at = starts_mid g after changes input before start in
    let same = c.start.ensures.shown in
    let seconds = ap (λ (o : Shown). o.seconds) same in
    let P : Option ℕ → Type 0 = λ m. LeavesOnly g.O.Disk.moment g.O.Disk.left_since c.start.new.outside c.do_task.new.outside (CommandKeeps (command_of c.args.task) (beginning (options_in c.args.line.now) m changes) input before) in
    goes_on g.O.Disk.moment g.O.Disk.left_since (job_of (command_of c.args.task)) (beginning (options_in c.args.line.now) (g.O.Outside.shown c.args.outside.now).seconds changes) input before c.args.outside.now c.start.new.outside c.do_task.new.outside (started g after changes input before start stands)
    (subst P (same_time g after) (c.do_task.ensures.any_moment (options_in c.args.line.now) changes input before (ap (λ (o : Shown). o.left) same ∙ at.left) (c.in_ok-session.ensures.started (settings_of (options_in c.args.line.now) (g.O.Outside.shown c.start.new.outside).seconds) changes before refl refl seconds at.reads at.taken at.told)))

pub returns-clause-killed : goal.returns-clause-killed
returns-clause-killed g c = λ changes was input before start either.
    let after = (goal.at.returns-clause-killed g c).After-start in
    let at = starts_mid g after changes input before start in
    let same = c.start.ensures.shown in
    let seconds = ap (λ (o : Shown). o.seconds) same in
    let P : Option ℕ → Type 0 = λ m. LeavesOnly g.O.Disk.moment g.O.Disk.left_since c.start.new.outside c.do_task.new.outside (CommandKeeps (command_of c.args.task) (beginning (options_in c.args.line.now) m changes) input before) in
    goes_on_either g.O.Disk.moment g.O.Disk.left_since (job_of (command_of c.args.task)) (beginning (options_in c.args.line.now) (g.O.Outside.shown c.args.outside.now).seconds changes) was input before c.args.outside.now c.start.new.outside c.do_task.new.outside (started_either g after changes was input before start either)
    (subst P (same_time g after) (c.do_task.ensures.any_moment (options_in c.args.line.now) changes input before (ap (λ (o : Shown). o.left) same ∙ at.left) (c.in_ok-session.ensures.started (settings_of (options_in c.args.line.now) (g.O.Outside.shown c.start.new.outside).seconds) changes before refl refl seconds at.reads at.taken at.told)))

pub returns-clause-found : goal.returns-clause-found
returns-clause-found g c = λ is tells.
    let same = c.open_folder.ensures.shown in
    let mid = g.O.Outside.shown c.open_folder.new.outside in
    let told = ap (λ (o : Shown). o.tells) same ∙ tells in
    let sound = c.do_task.ensures.sound (ap (λ (o : Shown). o.tells) c.start.ensures.shown ∙ told) in
    let none : (changes : List Change) → FilesStandFor mid.files changes → ⊥ = λ changes files. undamaged c.do_task.result (sound (c.in_ok-session.ensures.known changes files)) is in
    subst AreDamaged (ap (λ (o : Shown). o.files) same) (⊎_elim (λ list. absurd (none list.0 list.1)) (λ undamaged. inr (record { keeper = keeper_of c.in_ok-session.session; undamaged = undamaged; no_list = none })) (c.in_ok-session.ensures.answer told))

pub returns-clause-damaged : goal.returns-clause-damaged
returns-clause-damaged g c = λ damage tells h.
    let same = c.open_folder.ensures.shown in
    let P : Image → Type 0 = λ files. IsDamage files damage in
    let found = c.in_ok-session.ensures.answer (ap (λ (o : Shown). o.tells) same ∙ tells) in
    let here = subst P (sym (ap (λ (o : Shown). o.files) same)) h in
    absurd (⊎_elim (λ list. c.damaged_files_stand_for_no_list.ensures _ damage list.0 here list.1) (λ sound. c.undamaged_files_have_no_damage.ensures _ _ damage sound here) found)

pub returns-clause-reason : goal.returns-clause-reason
returns-clause-reason g c = later_reason c.do_task.result _ _ _ (c.in_ok-session.ensures.reason ∙ c.in_ok-open_folder.ensures.counts.reason) c.do_task.ensures.counts.reason

pub returns-clause-useful : goal.returns-clause-useful
returns-clause-useful g c = never_usage _

pub returns-in_err-open_folder-clause-asked : goal.returns-in_err-open_folder-clause-asked
returns-in_err-open_folder-clause-asked g c = λ asks file ne. ap (λ (o : Shown). o.files file) c.open_folder.ensures.shown

pub returns-in_err-open_folder-clause-marked : goal.returns-in_err-open_folder-clause-marked
returns-in_err-open_folder-clause-marked g c = λ asks tells some file. ap (λ (o : Shown). o.files file) c.open_folder.ensures.shown

pub returns-in_err-session-clause-asked : goal.returns-in_err-session-clause-asked
returns-in_err-session-clause-asked g c = λ asks file ne. c.start.ensures.others file ne ∙ ap (λ (o : Shown). o.files file) c.open_folder.ensures.shown

pub returns-in_err-session-clause-marked : goal.returns-in_err-session-clause-marked
returns-in_err-session-clause-marked g c = λ asks tells some file.
    let same = c.open_folder.ensures.shown in
    let P : Shown → Type 0 = λ o. 0 < longer_log o.files in
    c.start.ensures.untouched (ap (λ (o : Shown). o.tells) same ∙ tells) (subst P (sym same) some) file ∙ ap (λ (o : Shown). o.files file) same

pub returns-clause-asked : goal.returns-clause-asked
returns-clause-asked g c = λ asks file ne. c.do_task.ensures.asked asks file ∙ c.start.ensures.others file ne ∙ ap (λ (o : Shown). o.files file) c.open_folder.ensures.shown

pub returns-clause-marked : goal.returns-clause-marked
returns-clause-marked g c = λ asks tells some file.
    let same = c.open_folder.ensures.shown in
    let P : Shown → Type 0 = λ o. 0 < longer_log o.files in
    c.do_task.ensures.asked asks file ∙ c.start.ensures.untouched (ap (λ (o : Shown). o.tells) same ∙ tells) (subst P (sym same) some) file ∙ ap (λ (o : Shown). o.files file) same
