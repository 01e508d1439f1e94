use Rattle.std.proofs.lemmas.Result.{err_from_is_err_and}
use Rattle.s80_keeper.proofs.keeper.Keeper.prepare.Goals as goal

pub returns-in_err-block-clause-answer : goal.returns-in_err-block-clause-answer
returns-in_err-block-clause-answer c = λ state is.
    let p = err_from_is_err_and c.from_residual.result c.from_residual.ensures.1 in
    rw (p.1, p.2) (c.in_err-block.ensures.answer state is)
