use Rattle.std.proofs.Common.{◌∙◌, inl, inr, refl, sym, ap, true≢false}
use Rattle.s80_apply.specs.List.{state_of}
use Rattle.s80_form.specs.Name.{is_name}
use Rattle.s80_form.specs.declared.refusal.Refusal.TheVariants.{BadName}
use Rattle.s80_session.proofs.sought.tell_references.Goals as goal

pub returns-then-not-is_name-clause-answer : goal.returns-then-not-is_name-clause-answer
returns-then-not-is_name-clause-answer c = λ work system.
    inr (BadName c.args.name, inr (λ named. true≢false (sym named ∙ sym (c.if-not-is_name.ensures ∙ ap is_name c.bytes.ensures)), refl), refl)

pub returns-clause-answer : goal.returns-clause-answer
returns-clause-answer c = λ work system.
    let suits = sym (c.if-not-is_name.ensures ∙ ap is_name c.bytes.ensures) in
    inl (_, inl (suits, (_, refl)), (_, c.in_ok-places.ensures (state_of work.changes) system, c.in_ok-places_text.ensures), refl)
