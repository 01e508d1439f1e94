use Rattle.s80_apply.specs.List.{state_of}
use Rattle.s80_session.proofs.Telling.{file_is_told}
use Rattle.s80_session.proofs.told.tell_filed.Goals as goal

pub returns-clause-answer : goal.returns-clause-answer
returns-clause-answer c = λ changes system. file_is_told _ _ c.args.seconds _ (c.in_ok-changes.ensures (state_of changes) system) c.in_ok-render.ensures
