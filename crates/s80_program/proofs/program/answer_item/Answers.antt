use Rattle.std.proofs.Common.{Bool}
use Rattle.std.proofs.lemmas.Result.{err_from_is_err_and}
use Rattle.s80_keeper.proofs.lemmas.Standing.{knows_written}
use Rattle.s80_session.specs.Session.{keeper_of, was_of}
use Rattle.s80_program.specs.Leaves.{beginning}
use Rattle.s80_program.proofs.Ends.{no_damage_err, item_counts, item_counts_err, item_counts_ok, item_done, item_ended}
use Rattle.s80_program.proofs.program.answer_item.Goals as goal

pub returns-in_err-step-clause-worked : goal.returns-in_err-step-clause-worked
returns-in_err-step-clause-worked g c = λ options changes before calm at.
    let p = err_from_is_err_and c.from_residual.result c.from_residual.ensures.1 in
    rw (p.1, p.2) (item_ended (Unit {0}) _ (g.O.Disk.may_leave c.step.new.outside) (g.O.Outside.shown c.step.new.outside) _ (was_of c.args.session.now) (beginning options (g.O.Outside.shown c.args.outside.now).seconds changes) c.args.item before (c.in_err-step.ensures.stepped (beginning options (g.O.Outside.shown c.args.outside.now).seconds changes) before c.requires.readable at))

pub returns-clause-worked : goal.returns-clause-worked
returns-clause-worked g c = λ options changes before calm at.
    rw c.troubled.ensures (item_done (g.O.Disk.may_leave c.step.new.outside) (g.O.Outside.shown c.step.new.outside) _ (was_of c.args.session.now) (beginning options (g.O.Outside.shown c.args.outside.now).seconds changes) c.args.item before (c.in_ok-step.ensures.stepped (beginning options (g.O.Outside.shown c.args.outside.now).seconds changes) before c.requires.readable at) calm)

pub returns-clause-any_moment : goal.returns-clause-any_moment
returns-clause-any_moment g c = λ options changes before at. c.step.ensures.any_moment (beginning options (g.O.Outside.shown c.args.outside.now).seconds changes) before c.requires.readable at

pub returns-in_err-step-clause-any_moment : goal.returns-in_err-step-clause-any_moment
returns-in_err-step-clause-any_moment g c = λ options changes before at. c.step.ensures.any_moment (beginning options (g.O.Outside.shown c.args.outside.now).seconds changes) before c.requires.readable at

pub returns-in_err-step-clause-sound : goal.returns-in_err-step-clause-sound
returns-in_err-step-clause-sound g c = λ tells knowing.
    let p = err_from_is_err_and c.from_residual.result c.from_residual.ensures.1 in
    let o = g.O.Outside.shown c.args.outside.now in
    let keeper = keeper_of c.args.session.now in
    let (brief, changes, written) = knowing tells in
    rw (p.1, p.2) (no_damage_err (Unit {0}) Bool _ (c.in_err-step.ensures.sound tells changes (knows_written o.tells o.files keeper changes tells written) (λ asks. written.made.built)))

pub returns-in_err-step-clause-counts : goal.returns-in_err-step-clause-counts
returns-in_err-step-clause-counts g c =
    let p = err_from_is_err_and c.from_residual.result c.from_residual.ensures.1 in
    rw (p.1, p.2) (item_counts_err (Unit {0}) Bool _ _ _ (item_counts _ c.args.item _ _ _ c.in_err-step.ensures.counts))

pub returns-clause-counts : goal.returns-clause-counts
returns-clause-counts g c = item_counts_ok (Unit {0}) Bool _ _ _ _ (item_counts _ c.args.item _ _ _ c.in_ok-step.ensures.counts)
