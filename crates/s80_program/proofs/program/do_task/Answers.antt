use Rattle.std.proofs.Common.{ap, length, refl, sym, subst, ◌∙◌}
use Rattle.std.proofs.lemmas.Result.{err_from_is_err_and}
use Rattle.s80_disk.specs.Moments.{LeavesOnly}
use Rattle.s80_disk.proofs.lemmas.Showing.{told_beside}
use Rattle.s80_session.proofs.lemmas.Lasting.{nothing_happens}
use Rattle.s80_program.specs.Command.{Job, job_of, settings_of}
use Rattle.s80_program.specs.Ending.{status_after}
use Rattle.s80_program.specs.Job.{shown_job}
use Rattle.s80_program.specs.Leaves.{KeepsFor, LeavesFor, beginning}
use Rattle.s80_program.specs.Task.{command_of}
use Rattle.s80_program.proofs.Asking.{item_asks, no_making, no_merging, no_run}
use Rattle.s80_program.proofs.Beginning.{no_memory, session_begins}
use Rattle.s80_program.proofs.program.do_task.Goals as goal

pub returns-in_err-job_of-clause-worked : goal.returns-in_err-job_of-clause-worked
returns-in_err-job_of-clause-worked g c = λ options changes input before left calm no_last at.
    let p = err_from_is_err_and c.from_residual.result c.from_residual.ensures.1 in
    rw (p.1, p.2) (no_memory (job_of (command_of c.args.task)) (g.O.Disk.may_leave c.args.outside.now) (g.O.Outside.shown c.args.outside.now) _ (settings_of options (g.O.Outside.shown c.args.outside.now).seconds) changes input before at left)

pub returns-in_err-job_of-clause-any_moment : goal.returns-in_err-job_of-clause-any_moment
returns-in_err-job_of-clause-any_moment g c = λ options changes input before left at.
    session_begins g.O.Disk.moment g.O.Disk.left_since (job_of (command_of c.args.task)) (beginning options (g.O.Outside.shown c.args.outside.now).seconds changes) input before (length before) c.args.outside.now c.args.outside.now refl (nothing_happens g.O.Disk.moment g.O.Disk.left_since _ (g.O.Outside.shown c.args.outside.now) _ c.args.outside.now (beginning options (g.O.Outside.shown c.args.outside.now).seconds changes) before (λ told image left. let x = g.met.O.Disk.only_now c.args.outside.now told image left in (x.0, x.1 ∙ told_beside g.met.O.Outside.beside_is g.met.O.Outside.shown_is c.args.outside.now)) at)

pub returns-in-Takes-clause-worked : goal.returns-in-Takes-clause-worked
returns-in-Takes-clause-worked g c = λ options changes input before left calm no_last at.
    let P : Job → Type 0 = λ j. LeavesFor j (status_after c.run_input.result) (g.O.Disk.may_leave c.run_input.new.outside) (g.O.Outside.shown c.run_input.new.outside) (beginning options (g.O.Outside.shown c.args.outside.now).seconds changes) input before in
    subst P (ap shown_job (sym c.in-Takes.is) ∙ c.in_ok-job_of.ensures.job) (c.run_input.ensures.worked options changes input before left calm no_last at)

pub returns-in-Takes-clause-any_moment : goal.returns-in-Takes-clause-any_moment
returns-in-Takes-clause-any_moment g c = λ options changes input before left at.
    let P : Job → Type 0 = λ j. LeavesOnly g.O.Disk.moment g.O.Disk.left_since c.args.outside.now c.run_input.new.outside (KeepsFor j (beginning options (g.O.Outside.shown c.args.outside.now).seconds changes) input before) in
    subst P (ap shown_job (sym c.in-Takes.is) ∙ c.in_ok-job_of.ensures.job) (c.run_input.ensures.any_moment options changes input before left at)

pub returns-in-Merges-clause-worked : goal.returns-in-Merges-clause-worked
returns-in-Merges-clause-worked g c = λ options changes input before left calm no_last at.
    let P : Job → Type 0 = λ j. LeavesFor j (status_after c.merge_input.result) (g.O.Disk.may_leave c.merge_input.new.outside) (g.O.Outside.shown c.merge_input.new.outside) (beginning options (g.O.Outside.shown c.args.outside.now).seconds changes) input before in
    subst P (ap shown_job (sym c.in-Merges.is) ∙ c.in_ok-job_of.ensures.job) (c.merge_input.ensures.worked options changes input before left calm at)

pub returns-in-Merges-clause-any_moment : goal.returns-in-Merges-clause-any_moment
returns-in-Merges-clause-any_moment g c = λ options changes input before left at.
    let P : Job → Type 0 = λ j. LeavesOnly g.O.Disk.moment g.O.Disk.left_since c.args.outside.now c.merge_input.new.outside (KeepsFor j (beginning options (g.O.Outside.shown c.args.outside.now).seconds changes) input before) in
    subst P (ap shown_job (sym c.in-Merges.is) ∙ c.in_ok-job_of.ensures.job) (c.merge_input.ensures.any_moment options changes input before left at)

pub returns-in-Works-clause-worked : goal.returns-in-Works-clause-worked
returns-in-Works-clause-worked g c = λ options changes input before left calm no_last at.
    let P : Job → Type 0 = λ j. LeavesFor j (status_after c.answer_item.result) (g.O.Disk.may_leave c.answer_item.new.outside) (g.O.Outside.shown c.answer_item.new.outside) (beginning options (g.O.Outside.shown c.args.outside.now).seconds changes) input before in
    subst P (ap shown_job (sym c.in-Works.is) ∙ c.in_ok-job_of.ensures.job) (c.answer_item.ensures.worked options changes before calm at, c.answer_item.ensures.left ∙ left)

pub returns-in-Works-clause-any_moment : goal.returns-in-Works-clause-any_moment
returns-in-Works-clause-any_moment g c = λ options changes input before left at.
    let P : Job → Type 0 = λ j. LeavesOnly g.O.Disk.moment g.O.Disk.left_since c.args.outside.now c.answer_item.new.outside (KeepsFor j (beginning options (g.O.Outside.shown c.args.outside.now).seconds changes) input before) in
    subst P (ap shown_job (sym c.in-Works.is) ∙ c.in_ok-job_of.ensures.job) (c.answer_item.ensures.any_moment options changes before at)

pub returns-in-Makes-clause-worked : goal.returns-in-Makes-clause-worked
returns-in-Makes-clause-worked g c = λ options changes input before left calm no_last at.
    let P : Job → Type 0 = λ j. LeavesFor j (status_after c.make_classes.result) (g.O.Disk.may_leave c.make_classes.new.outside) (g.O.Outside.shown c.make_classes.new.outside) (beginning options (g.O.Outside.shown c.args.outside.now).seconds changes) input before in
    subst P (ap shown_job (sym c.in-Makes.is) ∙ c.in_ok-job_of.ensures.job) (c.make_classes.ensures.worked options changes before calm no_last at, c.make_classes.ensures.left ∙ left)

pub returns-in-Makes-clause-any_moment : goal.returns-in-Makes-clause-any_moment
returns-in-Makes-clause-any_moment g c = λ options changes input before left at.
    let P : Job → Type 0 = λ j. LeavesOnly g.O.Disk.moment g.O.Disk.left_since c.args.outside.now c.make_classes.new.outside (KeepsFor j (beginning options (g.O.Outside.shown c.args.outside.now).seconds changes) input before) in
    subst P (ap shown_job (sym c.in-Makes.is) ∙ c.in_ok-job_of.ensures.job) (c.make_classes.ensures.any_moment options changes before at)

pub returns-in-Takes-clause-asked : goal.returns-in-Takes-clause-asked
returns-in-Takes-clause-asked g c = λ asks. absurd (no_run (command_of c.args.task) (sym c.in_ok-job_of.ensures.job ∙ ap shown_job c.in-Takes.is) asks)

pub returns-in-Merges-clause-asked : goal.returns-in-Merges-clause-asked
returns-in-Merges-clause-asked g c = λ asks. absurd (no_merging (command_of c.args.task) (sym c.in_ok-job_of.ensures.job ∙ ap shown_job c.in-Merges.is) asks)

pub returns-in-Works-clause-asked : goal.returns-in-Works-clause-asked
returns-in-Works-clause-asked g c = λ asks. c.answer_item.ensures.asked (item_asks (command_of c.args.task) c.in-Works.item (sym c.in_ok-job_of.ensures.job ∙ ap shown_job c.in-Works.is) asks)

pub returns-in-Makes-clause-asked : goal.returns-in-Makes-clause-asked
returns-in-Makes-clause-asked g c = λ asks. absurd (no_making (command_of c.args.task) c.in-Makes.classes (sym c.in_ok-job_of.ensures.job ∙ ap shown_job c.in-Makes.is) asks)
