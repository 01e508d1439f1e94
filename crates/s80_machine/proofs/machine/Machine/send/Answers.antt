use Rattle.std.proofs.Common.{◌≡◌, ◌+◌, ◌∙◌, ◌∷◌, Some, ap, arith, refl, slice_get, subst, suc, sym}
use Rattle.std.specs.Option.{option_copied}
use Rattle.std.proofs.lemmas.Result.{err_from_is_err_and}
use Rattle.s80_lex.specs.Selector.{IsSelectorOf}
use Rattle.s80_machine.specs.Turn.{Context, waiting}
use Rattle.s80_machine.specs.Came.{given_of, places, sends}
use Rattle.s80_machine.specs.Sites.{IsSentAt}
use Rattle.s80_machine.proofs.CameSends.{AreTaken, active_is, not_taken, taken, taken_known}
use Rattle.s80_machine.proofs.CameSites.{literal_at}
use Rattle.s80_machine.proofs.machine.Machine.send.Goals.{In_ok-method, In_ok-receiver}
use Rattle.s80_machine.proofs.machine.Machine.send.Goals as goal

-- the message is known
known : (c : In_ok-receiver) → AreTaken c.args.on.now.classes.now c.args.self.now.objects c.args.count c.in_ok-receiver.receiver c.in_ok-receiver.arguments.items
known c = taken_known (λ p. (p.0, p.1.items)) c.args.count c.args.on.now.classes.now c.args.self.now c.take_message.new.self (c.in_ok-receiver.receiver, c.in_ok-receiver.arguments) c.requires.known c.in_ok-receiver.ensures

-- the active context
active : (c : In_ok-method) → slice_get c.args.self.now.contexts 0 ≡ Some c.in_ok-method.field-0.now
active c = sym c.active.ensures ∙ ap option_copied c.in_ok-method.ensures.ok_part

pub returns-in_err-receiver : goal.returns-in_err-receiver
returns-in_err-receiver c = λ top rest w next shows.
    let on = given_of c.args.on.now in
    let p = err_from_is_err_and c.from_residual-in_err-receiver.result c.from_residual-in_err-receiver.ensures.1 in
    let same : p.0 ≡ c.in_err-receiver.field-0.0 = p.2 in
    rw (p.1, same) (not_taken (λ p. (p.0, p.1.items)) c.args.count c.args.count refl on c.args.self.now (record c.args.self.now { contexts = c.take_message.new.self }) top rest w next c.take_message.new.self c.in_err-receiver.field-0.0
    (λ r values stack. sends on (places on w r) c.args.selector.now r values (waiting top next stack ∷ rest) w) shows c.in_err-receiver.ensures)

pub send_at-requires-clause-known : goal.send_at-requires-clause-known
send_at-requires-clause-known c =
    let all = known (goal.at.send_at-requires-clause-known c).In_ok-receiver in
    record { objects = c.requires.known.objects; receiver = all.receiver; arguments = all.arguments }

pub send_at-requires-clause-selector : goal.send_at-requires-clause-selector
send_at-requires-clause-selector c =
    let all = known (goal.at.send_at-requires-clause-selector c).In_ok-receiver in
    subst (λ n. IsSelectorOf n c.args.selector.now) (sym all.count) c.requires.selector

pub returns : goal.returns
returns c = λ top rest w next shows.
    let on = given_of c.args.on.now in
    let m = c.args.self.now in
    let r = c.in_ok-receiver.receiver in
    let values = c.in_ok-receiver.arguments.items in
    let selector = c.args.selector.now in
    let number = c.branch.inside.method in
    let same = c.branch.view_is ∙ active_is on m top rest w next shows c.in_ok-method.field-0.now (active (goal.at.returns c).In_ok-method) in
    let literal = literal_at on m top rest w next c.args.literal number selector shows c.requires.sends (ap (λ (a : Context). a.method) same) in
    let own : number + 1 ≡ suc number = omega arith in
    let sent = subst (λ n. IsSentAt on w.keys n c.args.literal selector) (sym (c.row_of.ensures ∙ own)) literal in
    taken (λ p. (p.0, p.1.items)) c.args.count c.args.count refl on m c.send_at.new.self top rest w next c.take_message.new.self (r, c.in_ok-receiver.arguments) c.send_at.result
    (λ r values stack. sends on (places on w r) selector r values (waiting top next stack ∷ rest) w) shows c.in_ok-receiver.ensures
    (λ stack shown. c.send_at.ensures (waiting top next stack) rest w shown sent)
