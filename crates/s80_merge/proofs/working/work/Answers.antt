use Rattle.std.proofs.lemmas.Result.{err_from_is_err_and}
use Rattle.s80_merge.proofs.lemmas.Working.{refused_so, worked_so}
use Rattle.s80_merge.proofs.working.work.Goals as goal

pub returns-in_err-step : goal.returns-in_err-step
returns-in_err-step c = λ state is.
    let p = err_from_is_err_and c.from_residual.result c.from_residual.ensures.1 in
    rw (p.1, p.2) (refused_so state c.args.change.now c.prepare.new.self c.in_err-step.field-0.0 (c.in_err-step.ensures.prepared.answer state is) (c.in_err-step.ensures.stays.same state is))

pub returns : goal.returns
returns c = λ state is.
    let made = c.in_ok-step.ensures.prepared.answer state is in
    worked_so state made.0 c.args.change.now c.install.new.self made.1 (made.2 0 c.install.new.self c.install.ensures)
