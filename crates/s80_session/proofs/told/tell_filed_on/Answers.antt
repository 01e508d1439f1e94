use Rattle.std.proofs.Common.{sym, ap, ◌∙◌}
use Rattle.s80_apply.specs.List.{state_of}
use Rattle.s80_form.specs.Name.{is_name}
use Rattle.s80_session.proofs.Telling.{class_told, misnamed_told, unknown_told}
use Rattle.s80_session.proofs.told.tell_filed_on.Goals as goal

pub returns-then-not-is_name-clause-answer : goal.returns-then-not-is_name-clause-answer
returns-then-not-is_name-clause-answer c = λ changes system.
    misnamed_told changes c.args.name c.args.seconds (sym (c.if-not-is_name.ensures ∙ ap is_name c.bytes.ensures)) c.each_second_has_a_moment.ensures

pub returns-then-is_none-clause-answer : goal.returns-then-is_none-clause-answer
returns-then-is_none-clause-answer c = λ changes system.
    unknown_told changes c.args.name c.args.seconds c.args.system.now system (sym (c.if-not-is_name.ensures ∙ ap is_name c.bytes.ensures)) c.find.result c.find.ensures c.if-is_none.ensures c.each_second_has_a_moment.ensures

pub returns-clause-answer : goal.returns-clause-answer
returns-clause-answer c = λ changes system.
    class_told changes c.args.name c.args.seconds c.args.system.now system (sym (c.if-not-is_name.ensures ∙ ap is_name c.bytes.ensures)) c.find.result c.find.ensures c.if-is_none.ensures _ _ (c.in_ok-changes.ensures (state_of changes) system) c.in_ok-render.ensures
