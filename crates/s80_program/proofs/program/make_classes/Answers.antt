use Rattle.std.proofs.Common.{Bool, ◌∙◌}
use Rattle.std.proofs.lemmas.Result.{err_from_is_err_and}
use Rattle.s80_session.specs.Session.{was_of}
use Rattle.s80_program.specs.Leaves.{beginning}
use Rattle.s80_program.proofs.Ends.{item_counts_err, item_counts_ok, make_done, make_ended, still_known}
use Rattle.s80_program.proofs.program.make_classes.Goals as goal

pub returns-in_err-make-clause-worked : goal.returns-in_err-make-clause-worked
returns-in_err-make-clause-worked g c = λ options changes before calm no_run at.
    let p = err_from_is_err_and c.from_residual.result c.from_residual.ensures.1 in
    rw (p.1, p.2) (make_ended (Unit {0}) c.in_err-make.field-0.0 (g.O.Disk.may_leave c.make.new.outside) (g.O.Outside.shown c.make.new.outside) (was_of c.args.session.now) (was_of c.make.new.self) (beginning options (g.O.Outside.shown c.args.outside.now).seconds changes) c.args.classes before (c.in_err-make.ensures.made (beginning options (g.O.Outside.shown c.args.outside.now).seconds changes) before at))

pub returns-clause-worked : goal.returns-clause-worked
returns-clause-worked g c = λ options changes before calm no_run at.
    rw c.troubled.ensures (make_done {T = Unit {0}} tt (g.O.Disk.may_leave c.make.new.outside) (g.O.Outside.shown c.make.new.outside) (was_of c.args.session.now) (was_of c.make.new.self) (beginning options (g.O.Outside.shown c.args.outside.now).seconds changes) c.args.classes before calm no_run (c.in_ok-make.ensures.made (beginning options (g.O.Outside.shown c.args.outside.now).seconds changes) before at))

pub returns-in_err-make-clause-any_moment : goal.returns-in_err-make-clause-any_moment
returns-in_err-make-clause-any_moment g c = λ options changes before at. c.make.ensures.any_moment (beginning options (g.O.Outside.shown c.args.outside.now).seconds changes) before at

pub returns-clause-any_moment : goal.returns-clause-any_moment
returns-clause-any_moment g c = λ options changes before at. c.make.ensures.any_moment (beginning options (g.O.Outside.shown c.args.outside.now).seconds changes) before at

pub returns-in_err-make-clause-sound : goal.returns-in_err-make-clause-sound
returns-in_err-make-clause-sound g c = λ tells knowing.
    let p = err_from_is_err_and c.from_residual.result c.from_residual.ensures.1 in
    rw (p.1, p.2) (still_known (g.O.Outside.shown c.make.new.outside) c.make.new.self c.in_err-make.field-0.0 (c.make.ensures.tells ∙ tells) (c.in_err-make.ensures.known knowing))

pub returns-in_err-make-clause-counts : goal.returns-in_err-make-clause-counts
returns-in_err-make-clause-counts g c =
    let p = err_from_is_err_and c.from_residual.result c.from_residual.ensures.1 in
    rw (p.1, p.2) (item_counts_err (Unit {0}) Bool c.in_err-make.field-0.0 (g.O.Outside.faults c.args.outside.now) (g.O.Outside.faults c.make.new.outside) c.in_err-make.ensures.counts)

pub returns-clause-counts : goal.returns-clause-counts
returns-clause-counts g c = item_counts_ok (Unit {0}) Bool tt c.troubled.result (g.O.Outside.faults c.args.outside.now) (g.O.Outside.faults c.make.new.outside) c.in_ok-make.ensures.counts
