use Rattle.s80_keeper.proofs.keeper.Keeper.prepare_note.Goals as goal

pub returns-in-Ok-clause-step : goal.returns-in-Ok-clause-step
returns-in-Ok-clause-step c = λ state is. (c.in-Ok.ensures.answer state is).1
