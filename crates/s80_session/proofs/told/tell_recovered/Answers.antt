use Rattle.std.proofs.Common.{ap, ◌∙◌}
use Rattle.s80_apply.specs.List.{state_of}
use Rattle.s80_model.specs.declared.reply.Reply.TheVariants.{Told}
use Rattle.s80_model.specs.Texts.{recovered_text}
use Rattle.s80_session.proofs.told.tell_recovered.Goals as goal

pub returns-clause-answer : goal.returns-clause-answer
returns-clause-answer c = λ changes system counted. ap Told (c.in_ok-recovered_text.ensures (state_of changes) system ∙ ap (λ n. recovered_text n (state_of changes)) counted)
