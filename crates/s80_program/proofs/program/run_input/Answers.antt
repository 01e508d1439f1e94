use Rattle.std.proofs.Common.{Bool, ◌∙◌}
use Rattle.std.proofs.lemmas.Result.{err_from_is_err_and}
use Rattle.s80_session.specs.Session.{was_of}
use Rattle.s80_program.specs.Leaves.{beginning}
use Rattle.s80_program.proofs.Ends.{item_counts_err, item_counts_ok, run_done, run_ended, still_known}
use Rattle.s80_program.proofs.program.run_input.Goals as goal

pub returns-in_err-run_items-clause-worked : goal.returns-in_err-run_items-clause-worked
returns-in_err-run_items-clause-worked g c = λ options changes input before left calm no_run at.
    let p = err_from_is_err_and c.from_residual.result c.from_residual.ensures.1 in
    rw (p.1, p.2) (run_ended (Unit {0}) _ (g.O.Disk.may_leave c.run_items.new.outside) (g.O.Outside.shown c.run_items.new.outside) (was_of c.args.session.now) (was_of c.run_items.new.self) (beginning options (g.O.Outside.shown c.args.outside.now).seconds changes) input before (c.in_err-run_items.ensures.ran (beginning options (g.O.Outside.shown c.args.outside.now).seconds changes) input before left at))

pub returns-clause-worked : goal.returns-clause-worked
returns-clause-worked g c = λ options changes input before left calm no_run at.
    rw c.troubled.ensures (run_done {T = Unit {0}} tt (g.O.Disk.may_leave c.run_items.new.outside) (g.O.Outside.shown c.run_items.new.outside) (was_of c.args.session.now) (was_of c.run_items.new.self) (beginning options (g.O.Outside.shown c.args.outside.now).seconds changes) input before calm no_run (c.in_ok-run_items.ensures.ran (beginning options (g.O.Outside.shown c.args.outside.now).seconds changes) input before left at))

pub returns-in_err-run_items-clause-any_moment : goal.returns-in_err-run_items-clause-any_moment
returns-in_err-run_items-clause-any_moment g c = λ options changes input before left at. c.run_items.ensures.any_moment (beginning options (g.O.Outside.shown c.args.outside.now).seconds changes) input before left at

pub returns-clause-any_moment : goal.returns-clause-any_moment
returns-clause-any_moment g c = λ options changes input before left at. c.run_items.ensures.any_moment (beginning options (g.O.Outside.shown c.args.outside.now).seconds changes) input before left at

pub returns-in_err-run_items-clause-sound : goal.returns-in_err-run_items-clause-sound
returns-in_err-run_items-clause-sound g c = λ tells knowing.
    let p = err_from_is_err_and c.from_residual.result c.from_residual.ensures.1 in
    rw (p.1, p.2) (still_known (g.O.Outside.shown c.run_items.new.outside) c.run_items.new.self c.in_err-run_items.field-0.0 (c.run_items.ensures.tells ∙ tells) (c.in_err-run_items.ensures.known knowing))

pub returns-in_err-run_items-clause-counts : goal.returns-in_err-run_items-clause-counts
returns-in_err-run_items-clause-counts g c =
    let p = err_from_is_err_and c.from_residual.result c.from_residual.ensures.1 in
    rw (p.1, p.2) (item_counts_err (Unit {0}) Bool _ _ _ c.in_err-run_items.ensures.counts)

pub returns-clause-counts : goal.returns-clause-counts
returns-clause-counts g c = item_counts_ok (Unit {0}) Bool _ _ _ _ c.in_ok-run_items.ensures.counts
