use Rattle.std.proofs.Common.{inl, inr, refl}
use Rattle.s80_apply.specs.List.{state_of}
use Rattle.s80_form.specs.declared.refusal.Refusal.TheVariants.{BadName}
use Rattle.s80_session.proofs.Seeking.{is_selector, no_selector}
use Rattle.s80_session.proofs.sought.tell_senders.Goals as goal

pub returns-then-is_none-clause-answer : goal.returns-then-is_none-clause-answer
returns-then-is_none-clause-answer c = λ work system.
    inr (BadName c.args.selector, inr (no_selector c.args.selector c.bytes.result.now c.parameters_of.result c.bytes.ensures c.parameters_of.ensures c.if-is_none.ensures, refl), refl)

pub returns-clause-answer : goal.returns-clause-answer
returns-clause-answer c = λ work system.
    let suits = is_selector c.args.selector c.bytes.result.now c.parameters_of.result c.bytes.ensures c.parameters_of.ensures c.if-is_none.ensures in
    inl (_, inl (suits, (_, refl)), (_, c.in_ok-places.ensures (state_of work.changes) system, c.in_ok-places_text.ensures), refl)
