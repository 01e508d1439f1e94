use Rattle.std.proofs.Common.{Bool, ◌∙◌}
use Rattle.std.proofs.lemmas.Result.{err_from_is_err_and}
use Rattle.s80_session.specs.Session.{was_of}
use Rattle.s80_program.specs.Leaves.{beginning}
use Rattle.s80_program.proofs.Ends.{item_counts_err, item_counts_ok, merge_done, merge_ended, still_known}
use Rattle.s80_program.proofs.program.merge_input.Goals as goal

pub returns-in_err-merge-clause-worked : goal.returns-in_err-merge-clause-worked
returns-in_err-merge-clause-worked g c = λ options changes input before left calm at.
    let p = err_from_is_err_and c.from_residual.result c.from_residual.ensures.1 in
    rw (p.1, p.2) (merge_ended (Unit {0}) _ (g.O.Disk.may_leave c.merge.new.outside) (g.O.Outside.shown c.merge.new.outside) (was_of c.args.session.now) (was_of c.merge.new.self) (beginning options (g.O.Outside.shown c.args.outside.now).seconds changes) input before (c.in_err-merge.ensures.merged (beginning options (g.O.Outside.shown c.args.outside.now).seconds changes) input before left at))

pub returns-clause-worked : goal.returns-clause-worked
returns-clause-worked g c = λ options changes input before left calm at.
    rw c.troubled.ensures (merge_done {T = Unit {0}} tt (g.O.Disk.may_leave c.merge.new.outside) (g.O.Outside.shown c.merge.new.outside) (was_of c.args.session.now) (was_of c.merge.new.self) (beginning options (g.O.Outside.shown c.args.outside.now).seconds changes) input before calm (c.in_ok-merge.ensures.merged (beginning options (g.O.Outside.shown c.args.outside.now).seconds changes) input before left at))

pub returns-in_err-merge-clause-any_moment : goal.returns-in_err-merge-clause-any_moment
returns-in_err-merge-clause-any_moment g c = λ options changes input before left at. c.merge.ensures.any_moment (beginning options (g.O.Outside.shown c.args.outside.now).seconds changes) input before left at

pub returns-clause-any_moment : goal.returns-clause-any_moment
returns-clause-any_moment g c = λ options changes input before left at. c.merge.ensures.any_moment (beginning options (g.O.Outside.shown c.args.outside.now).seconds changes) input before left at

pub returns-in_err-merge-clause-sound : goal.returns-in_err-merge-clause-sound
returns-in_err-merge-clause-sound g c = λ tells knowing.
    let p = err_from_is_err_and c.from_residual.result c.from_residual.ensures.1 in
    rw (p.1, p.2) (still_known (g.O.Outside.shown c.merge.new.outside) c.merge.new.self c.in_err-merge.field-0.0 (c.merge.ensures.tells ∙ tells) (c.in_err-merge.ensures.known knowing))

pub returns-in_err-merge-clause-counts : goal.returns-in_err-merge-clause-counts
returns-in_err-merge-clause-counts g c =
    let p = err_from_is_err_and c.from_residual.result c.from_residual.ensures.1 in
    rw (p.1, p.2) (item_counts_err (Unit {0}) Bool _ _ _ c.in_err-merge.ensures.counts)

pub returns-clause-counts : goal.returns-clause-counts
returns-clause-counts g c = item_counts_ok (Unit {0}) Bool _ _ _ _ c.in_ok-merge.ensures.counts
