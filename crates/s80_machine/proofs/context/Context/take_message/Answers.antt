use Rattle.std.proofs.Common.{◌≡◌, ◌∙◌, ◌+◌, ◌≤◌, ap, arith, drop, length, refl}
use Rattle.std.proofs.lemmas.List.{take_rest}
use Rattle.std.proofs.lemmas.Result.{err_from_is_err_and}
use Rattle.s80_machine.proofs.SeenStacks.{too_small, no_message, message_failed, message_off}
use Rattle.s80_machine.proofs.context.Context.take_message.Goals as goal

pub returns-in_default-clause-does : goal.returns-in_default-clause-does
returns-in_default-clause-does c =
    let small = too_small _ _ c.checked_sub.result c.checked_sub.ensures c.in_default.not-Some in
    let few : length c.self.inside.stack.items ≤ c.args.count = omega (arith, small, c.len.ensures, c.from.ensures, c.self.inside.stack.ok.0) in
    no_message (λ p. (p.0, p.1.items)) _ c.args.self.now c.self.view_is c.self.inside.stack.items refl c.args.count c.args.self.now few

pub returns-in_err-arguments-clause-does : goal.returns-in_err-arguments-clause-does
returns-in_err-arguments-clause-does c =
    let p = err_from_is_err_and c.from_residual.result c.from_residual.ensures.1 in
    let all : c.in-Some.below + (c.args.count + 1) ≡ length c.self.inside.stack.items = omega (arith, c.in-Some.ensures.0, c.in-Some.ensures.1, c.len.ensures, c.from.ensures, c.self.inside.stack.ok.0) in
    rw (p.1, p.2) (message_failed (λ p. (p.0, p.1.items)) _ c.args.self.now c.self.view_is c.self.inside.stack.items refl c.args.count c.in-Some.below c.index-receiver.result.now all c.index-receiver.ensures c.args.self.now)

pub returns-clause-does : goal.returns-clause-does
returns-clause-does c =
    let xs = c.self.inside.stack.items in
    let all : c.in-Some.below + (c.args.count + 1) ≡ length c.self.inside.stack.items = omega (arith, c.in-Some.ensures.0, c.in-Some.ensures.1, c.len.ensures, c.from.ensures, c.self.inside.stack.ok.0) in
    let copied : c.in_ok-arguments.arguments.items ≡ drop (c.in-Some.below + 1) c.self.inside.stack.items =
    c.in_ok-arguments.ensures ∙ take_rest c.deref.result.now (c.in-Some.below + 1) ∙ ap (drop (c.in-Some.below + 1)) c.deref.ensures.value in
    message_off (λ p. (p.0, p.1.items)) _ c.args.self.now c.self.view_is xs refl c.args.count c.in-Some.below c.index-receiver.result.now all c.index-receiver.ensures
    c.truncate.new.self.items (c.index-receiver.result.now, c.in_ok-arguments.arguments) c.truncate.ensures.items (ap (λ ys. (c.index-receiver.result.now, ys)) copied)
