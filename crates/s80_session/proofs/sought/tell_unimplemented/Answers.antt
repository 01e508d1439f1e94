use Rattle.std.proofs.Common.{inl, refl}
use Rattle.s80_apply.specs.List.{state_of}
use Rattle.s80_session.proofs.sought.tell_unimplemented.Goals as goal

pub returns-clause-answer : goal.returns-clause-answer
returns-clause-answer c = λ work system. inl (_, (_, refl), (_, c.in_ok-names.ensures (state_of work.changes) system, c.in_ok-names_text.ensures), refl)
