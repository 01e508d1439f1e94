use Rattle.std.proofs.Common.{inl, inr, List, ℕ, Option, refl, sym, subst, ◌∙◌}
use Rattle.std.specs.Prelude.{option_map}
use Rattle.s80_change.specs.declared.change.Change.{Change}
use Rattle.s80_disk.specs.Moments.{LeavesOnly}
use Rattle.s80_disk.proofs.lemmas.Showing.{told_beside}
use Rattle.s80_line.specs.declared.line.Line.{Line}
use Rattle.s80_line.specs.Line.{IsLine}
use Rattle.s80_line.specs.Shown.{shown}
use Rattle.s80_session.specs.Putting.{IsAsBefore}
use Rattle.s80_program.specs.Command.{Command, Options, IsAskingCommand, job_of}
use Rattle.s80_program.specs.Ending.{status_after}
use Rattle.s80_program.specs.Leaves.{StartsWith, Leaves, CommandKeeps, KilledKeeps, beginning}
use Rattle.s80_program.specs.Task.{command_of}
use Rattle.s80_program.specs.Words.{AreOf, Asks, options_in}
use Rattle.s80_program.proofs.Asked.{no_line, no_parts, of_each, one_command}
use Rattle.s80_program.proofs.Beginning.{as_before, chosen, chosen_either}
use Rattle.s80_program.proofs.Fronts.{front_of, nothing_put, whole_without_fault}
use Rattle.s80_program.proofs.program.st80.Goals as goal
use Rattle.s80_program.proofs.program.st80.Goals.{After-read_line, After-work}

-- ---- memory is wanting to read the words

unread : (g : _) (c : After-read_line g) → LeavesOnly g.O.Disk.moment g.O.Disk.left_since c.args.outside.now c.args.outside.now (IsAsBefore (g.O.Disk.may_leave c.args.outside.now) (g.O.Outside.shown c.args.outside.now).told 0)
unread g c = as_before g.O.Disk.moment g.O.Disk.left_since _ _ c.args.outside.now (λ told image left. let x = g.met.O.Disk.only_now c.args.outside.now told image left in (x.0, x.1 ∙ told_beside g.met.O.Outside.beside_is g.met.O.Outside.shown_is c.args.outside.now))

pub returns-in_default-clause-leaves : goal.returns-in_default-clause-leaves
returns-in_default-clause-leaves g c = λ options command changes input before asked start. inr (refl, refl)

pub returns-in_default-clause-any_moment : goal.returns-in_default-clause-any_moment
returns-in_default-clause-any_moment g c = λ options command changes input before asked start stands.
    chosen g.O.Disk.moment g.O.Disk.left_since (job_of command) (beginning options (g.O.Outside.shown c.args.outside.now).seconds changes) input before _ _ _ _ c.args.outside.now c.args.outside.now stands start.told (unread g (goal.at.returns-in_default-clause-any_moment g c).After-read_line)

pub returns-in_default-clause-killed : goal.returns-in_default-clause-killed
returns-in_default-clause-killed g c = λ options command changes was input before asked start either.
    chosen_either g.O.Disk.moment g.O.Disk.left_since (job_of command) (beginning options (g.O.Outside.shown c.args.outside.now).seconds changes) was input before _ _ c.args.outside.now c.args.outside.now either start.told (unread g (goal.at.returns-in_default-clause-killed g c).After-read_line)

pub returns-in_default-clause-front : goal.returns-in_default-clause-front
returns-in_default-clause-front g c = λ options command changes input before asks asked start timed all bytes writes.
    nothing_put (g.O.Outside.shown c.args.outside.now) before bytes start.taken

pub returns-in_default-clause-damaged : goal.returns-in_default-clause-damaged
returns-in_default-clause-damaged g c = λ options command damage asked tells h. (tt, refl, unread g (goal.at.returns-in_default-clause-damaged g c).After-read_line)

-- ---- the words ask for something

-- the words ask for the task
asks : (g : _) (c : After-work g) → Asks c.args.words.now (options_in c.in-Some.line) (command_of c.in-Some-task_of.task)
asks g c =
    let P : Option Line → Type 0 = λ l. IsLine c.args.words.now (option_map shown l) in
    let Q : List (List ℕ) → Type 0 = λ l. AreOf c.in-Some.line.command l (command_of c.in-Some-task_of.task) in
    record { line = shown c.in-Some.line; read = subst P c.in-Some.is c.in-Ok.ensures.read; options_are = refl; command_is = subst Q c.as_slice.ensures.value c.in-Some-task_of.ensures.found }

-- what they ask for is done
done : (g : _) (c : After-work g) (options : Options) (command : Command) (changes : List Change) (input before : List ℕ) → Asks c.args.words.now options command → StartsWith (g.O.Disk.may_leave c.args.outside.now) (g.O.Outside.shown c.args.outside.now) changes input before → Leaves command (status_after c.work.result) (g.O.Disk.may_leave c.work.new.outside) (g.O.Outside.shown c.work.new.outside) (beginning options (g.O.Outside.shown c.args.outside.now).seconds changes) input before
done g c options command changes input before asked start =
    let P : Options → Command → Type 0 = λ o k. Leaves k (status_after c.work.result) (g.O.Disk.may_leave c.work.new.outside) (g.O.Outside.shown c.work.new.outside) (beginning o (g.O.Outside.shown c.args.outside.now).seconds changes) input before in
    of_each _ options _ command _ P asked (asks g c) (c.work.ensures.worked changes input before start)

pub returns-in-Some-task_of-clause-lawful : goal.returns-in-Some-task_of-clause-lawful
returns-in-Some-task_of-clause-lawful g c = λ not. inl (options_in c.in-Some.line, command_of c.in-Some-task_of.task, asks g (goal.at.returns-in-Some-task_of-clause-lawful g c).After-work)

pub returns-in-Some-task_of-clause-leaves : goal.returns-in-Some-task_of-clause-leaves
returns-in-Some-task_of-clause-leaves g c = λ options command changes input before asked start.
    inl (rw c.status_of.ensures (done g (goal.at.returns-in-Some-task_of-clause-leaves g c).After-work options command changes input before asked start))

pub returns-in-Some-task_of-clause-any_moment : goal.returns-in-Some-task_of-clause-any_moment
returns-in-Some-task_of-clause-any_moment g c = λ options command changes input before asked start stands.
    let P : Options → Command → Type 0 = λ o k. LeavesOnly g.O.Disk.moment g.O.Disk.left_since c.args.outside.now c.work.new.outside (CommandKeeps k (beginning o (g.O.Outside.shown c.args.outside.now).seconds changes) input before) in
    of_each _ options _ command _ P asked (asks g (goal.at.returns-in-Some-task_of-clause-any_moment g c).After-work) (c.work.ensures.any_moment changes input before start stands)

pub returns-in-Some-task_of-clause-killed : goal.returns-in-Some-task_of-clause-killed
returns-in-Some-task_of-clause-killed g c = λ options command changes was input before asked start either.
    let P : Options → Command → Type 0 = λ o k. LeavesOnly g.O.Disk.moment g.O.Disk.left_since c.args.outside.now c.work.new.outside (KilledKeeps k (beginning o (g.O.Outside.shown c.args.outside.now).seconds changes) was input before) in
    of_each _ options _ command _ P asked (asks g (goal.at.returns-in-Some-task_of-clause-killed g c).After-work) (c.work.ensures.killed changes was input before start either)

pub returns-in-Some-task_of-clause-front : goal.returns-in-Some-task_of-clause-front
returns-in-Some-task_of-clause-front g c = λ options command changes input before asks asked start timed all bytes writes.
    front_of c.one_ask.ensures.all c.make_has_one_line.ensures.asks c.make_has_one_line.ensures.tally c.merging_has_one_outcome.ensures (job_of command) (status_after c.work.result) (g.O.Disk.may_leave c.work.new.outside) (g.O.Outside.shown c.work.new.outside) (beginning options (g.O.Outside.shown c.args.outside.now).seconds changes) input before asks bytes timed (done g (goal.at.returns-in-Some-task_of-clause-front g c).After-work options command changes input before asked start) all writes

pub returns-in-Some-task_of-clause-complete : goal.returns-in-Some-task_of-clause-complete
returns-in-Some-task_of-clause-complete g c = λ options command changes input before asked start within none.
    rw c.status_of.ensures (whole_without_fault command (status_after c.work.result) _ _ (g.O.Disk.may_leave c.work.new.outside) (g.O.Outside.shown c.work.new.outside) (beginning options (g.O.Outside.shown c.args.outside.now).seconds changes) input before (done g (goal.at.returns-in-Some-task_of-clause-complete g c).After-work options command changes input before asked start) c.work.ensures.reason none within)

pub returns-in-Some-task_of-clause-usage : goal.returns-in-Some-task_of-clause-usage
returns-in-Some-task_of-clause-usage g c = λ is. absurd (c.work.ensures.useful (sym c.status_of.ensures ∙ is))

pub returns-in-Some-task_of-clause-asked : goal.returns-in-Some-task_of-clause-asked
returns-in-Some-task_of-clause-asked g c = λ options command asked so.
    c.work.ensures.asked (subst IsAskingCommand (one_command _ options _ command _ asked (asks g (goal.at.returns-in-Some-task_of-clause-asked g c).After-work)) so)

pub returns-in-Some-task_of-clause-marked : goal.returns-in-Some-task_of-clause-marked
returns-in-Some-task_of-clause-marked g c = λ options command asked so.
    c.work.ensures.marked (subst IsAskingCommand (one_command _ options _ command _ asked (asks g (goal.at.returns-in-Some-task_of-clause-marked g c).After-work)) so)

pub returns-in-Some-task_of-clause-found : goal.returns-in-Some-task_of-clause-found
returns-in-Some-task_of-clause-found g c = λ is tells. c.work.ensures.found (sym c.status_of.ensures ∙ is) tells

pub returns-in-Some-task_of-clause-damaged : goal.returns-in-Some-task_of-clause-damaged
returns-in-Some-task_of-clause-damaged g c = λ options command damage asked tells h. rw c.status_of.ensures (c.work.ensures.damaged damage tells h)

-- ---- they ask for nothing

pub returns-in_default-line-clause-usage : goal.returns-in_default-line-clause-usage
returns-in_default-line-clause-usage g c = λ is. (no_line _ _ c.in-Ok.ensures.read c.in_default-line.not-Some, refl)

pub returns-in_default-line-clause-leaves : goal.returns-in_default-line-clause-leaves
returns-in_default-line-clause-leaves g c = λ options command changes input before asked start. absurd (no_line _ _ c.in-Ok.ensures.read c.in_default-line.not-Some options command asked)

pub returns-in_default-line-clause-any_moment : goal.returns-in_default-line-clause-any_moment
returns-in_default-line-clause-any_moment g c = λ options command changes input before asked start stands. absurd (no_line _ _ c.in-Ok.ensures.read c.in_default-line.not-Some options command asked)

pub returns-in_default-line-clause-killed : goal.returns-in_default-line-clause-killed
returns-in_default-line-clause-killed g c = λ options command changes was input before asked start either. absurd (no_line _ _ c.in-Ok.ensures.read c.in_default-line.not-Some options command asked)

pub returns-in_default-line-clause-front : goal.returns-in_default-line-clause-front
returns-in_default-line-clause-front g c = λ options command changes input before asks asked start timed all bytes writes. absurd (no_line _ _ c.in-Ok.ensures.read c.in_default-line.not-Some options command asked)

pub returns-in_default-line-clause-complete : goal.returns-in_default-line-clause-complete
returns-in_default-line-clause-complete g c = λ options command changes input before asked start within none. absurd (no_line _ _ c.in-Ok.ensures.read c.in_default-line.not-Some options command asked)

pub returns-in_default-line-clause-asked : goal.returns-in_default-line-clause-asked
returns-in_default-line-clause-asked g c = λ options command asked so. absurd (no_line _ _ c.in-Ok.ensures.read c.in_default-line.not-Some options command asked)

pub returns-in_default-line-clause-marked : goal.returns-in_default-line-clause-marked
returns-in_default-line-clause-marked g c = λ options command asked so. absurd (no_line _ _ c.in-Ok.ensures.read c.in_default-line.not-Some options command asked)

pub returns-in_default-line-clause-damaged : goal.returns-in_default-line-clause-damaged
returns-in_default-line-clause-damaged g c = λ options command damage asked tells h. absurd (no_line _ _ c.in-Ok.ensures.read c.in_default-line.not-Some options command asked)

pub returns-clause-usage : goal.returns-clause-usage
returns-clause-usage g c = λ is. (no_parts _ _ c.in-Some.line _ c.in-Ok.ensures.read c.in-Some.is c.as_slice.ensures.value c.in-None.ensures.none, refl)

pub returns-clause-leaves : goal.returns-clause-leaves
returns-clause-leaves g c = λ options command changes input before asked start. absurd (no_parts _ _ c.in-Some.line _ c.in-Ok.ensures.read c.in-Some.is c.as_slice.ensures.value c.in-None.ensures.none options command asked)

pub returns-clause-any_moment : goal.returns-clause-any_moment
returns-clause-any_moment g c = λ options command changes input before asked start stands. absurd (no_parts _ _ c.in-Some.line _ c.in-Ok.ensures.read c.in-Some.is c.as_slice.ensures.value c.in-None.ensures.none options command asked)

pub returns-clause-killed : goal.returns-clause-killed
returns-clause-killed g c = λ options command changes was input before asked start either. absurd (no_parts _ _ c.in-Some.line _ c.in-Ok.ensures.read c.in-Some.is c.as_slice.ensures.value c.in-None.ensures.none options command asked)

pub returns-clause-front : goal.returns-clause-front
returns-clause-front g c = λ options command changes input before asks asked start timed all bytes writes. absurd (no_parts _ _ c.in-Some.line _ c.in-Ok.ensures.read c.in-Some.is c.as_slice.ensures.value c.in-None.ensures.none options command asked)

pub returns-clause-complete : goal.returns-clause-complete
returns-clause-complete g c = λ options command changes input before asked start within none. absurd (no_parts _ _ c.in-Some.line _ c.in-Ok.ensures.read c.in-Some.is c.as_slice.ensures.value c.in-None.ensures.none options command asked)

pub returns-clause-asked : goal.returns-clause-asked
returns-clause-asked g c = λ options command asked so. absurd (no_parts _ _ c.in-Some.line _ c.in-Ok.ensures.read c.in-Some.is c.as_slice.ensures.value c.in-None.ensures.none options command asked)

pub returns-clause-marked : goal.returns-clause-marked
returns-clause-marked g c = λ options command asked so. absurd (no_parts _ _ c.in-Some.line _ c.in-Ok.ensures.read c.in-Some.is c.as_slice.ensures.value c.in-None.ensures.none options command asked)

pub returns-clause-damaged : goal.returns-clause-damaged
returns-clause-damaged g c = λ options command damage asked tells h. absurd (no_parts _ _ c.in-Some.line _ c.in-Ok.ensures.read c.in-Some.is c.as_slice.ensures.value c.in-None.ensures.none options command asked)
