use Rattle.std.proofs.Common.{Ok, Err, refl, sym, arith, subst}
use Rattle.s80_form.specs.declared.refusal.Refusal.TheVariants.{LogFull}
use Rattle.s80_apply.specs.System.{MakesPlaces, Prepares}
use Rattle.s80_keeper.proofs.Accepted.{refuses_so, refuses_full}
use Rattle.s80_keeper.proofs.Replayed.{accepted_so, placed_so}
use Rattle.s80_keeper.proofs.start.accept.Goals as goal

pub returns-in-Err-Refusal-clause-answer : goal.returns-in-Err-Refusal-clause-answer
returns-in-Err-Refusal-clause-answer c = λ state is.
    let why = subst (λ fault. Prepares state c.args.change.now c.prepare.new.self (Err fault)) c.in-Err-Refusal.field-0-is (c.in-Err-Refusal.ensures.prepared.answer state is) in
    rw c.refused.ensures (c.in-Err-Refusal.refusal, refuses_so state c.args.at c.args.change.now c.in-Err-Refusal.refusal why, refl, refl)

pub returns-in-Ok-clause-answer : goal.returns-in-Ok-clause-answer
returns-in-Ok-clause-answer c = λ state is.
    let made = c.in-Ok.ensures.prepared.answer state is in
    let full = refuses_full state c.args.at c.args.change.now made.0 made.1 (omega (arith, c.requires.next, c.if-next-gt-LOG_LIMIT.true)) in
    rw c.refused-in-Ok.ensures (LogFull c.args.at, full, refl, refl)

pub returns-in-Ok-2-clause-answer : goal.returns-in-Ok-2-clause-answer
returns-in-Ok-2-clause-answer c = λ state is.
    let made = subst (λ step. Prepares state c.args.change.now c.prepare.new.self (Ok step)) (sym c.in-Ok-2.step-is) (c.in-Ok-2.ensures.prepared.answer state is) in
    accepted_so state made.0 c.args.at c.args.change.now c.install.new.self made.1 (omega (arith, c.requires.next, c.if-next-gt-LOG_LIMIT.false)) (made.2 c.args.at c.install.new.self c.install.ensures)

pub returns-in-Ok-2-clause-places : goal.returns-in-Ok-2-clause-places
returns-in-Ok-2-clause-places c = λ placed has.
    let makes = subst (λ step. MakesPlaces c.prepare.new.self step c.args.change.now placed) (sym c.in-Ok-2.step-is) (c.in-Ok-2.ensures.prepared.places placed has) in
    let made = makes c.args.at in
    placed_so placed made.0 c.args.at c.args.change.now c.install.new.self made.1 (made.2 c.install.new.self c.install.ensures)
