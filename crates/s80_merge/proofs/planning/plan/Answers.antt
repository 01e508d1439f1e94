use Rattle.std.proofs.lemmas.Result.{err_from_is_err_and}
use Rattle.s80_apply.specs.List.{state_of}
use Rattle.s80_merge.proofs.Conflicts.{are_conflicts}
use Rattle.s80_merge.proofs.lemmas.Planned.{none_merge, not_refused, ours_accepted}
use Rattle.s80_merge.proofs.planning.plan.Goals as goal

pub returns-in_err-of_ours-clause-plan : goal.returns-in_err-of_ours-clause-plan
returns-in_err-of_ours-clause-plan c = λ built.
    let p = err_from_is_err_and c.from_residual.result c.from_residual.ensures.1 in
    rw (p.1, p.2) (not_refused (state_of c.args.base.now) c.args.ours.now c.args.theirs.now c.in_err-of_ours.field-0.0 (ours_accepted c.args.base.now c.args.ours.now built) c.in_err-of_ours.ensures)

pub returns-clause-plan : goal.returns-clause-plan
returns-clause-plan c = λ built. (
  c.in_ok-of_theirs.ensures.0,
  are_conflicts (state_of c.args.base.now) c.args.ours.now c.args.theirs.now c.in_ok-of_ours.of_ours c.in_ok-of_theirs.of_theirs c.in_ok-of_ours.ensures.1 c.in_ok-of_theirs.ensures.1 c.in_ok-conflicts.field-0
      c.in_ok-conflicts.ensures.ascending c.in_ok-conflicts.ensures.all,
)

pub returns-clause-merges : goal.returns-clause-merges
returns-clause-merges c = λ built. none_merge c.args.base.now c.args.ours.now c.args.theirs.now c.in_ok-conflicts.field-0 built c.in_ok-of_theirs.ensures.0 (returns-clause-plan c built).1
