use Rattle.std.proofs.Common.{◌≡◌, ◌∙◌, ◌∷◌, [], Err, subst, sym}
use Rattle.std.proofs.lemmas.Result.{err_from_is_err_and}
use Rattle.s80_machine.specs.World.{method}
use Rattle.s80_machine.specs.Shared.{does_not_understand}
use Rattle.s80_machine.specs.Came.{Came, given_of}
use Rattle.s80_machine.specs.Messages.{IsKnownMessage, Takes, runs_method}
use Rattle.s80_machine.proofs.SoundMessages.{takes_one}
use Rattle.s80_machine.proofs.CameMethods.{found_takes, takes_on}
use Rattle.s80_machine.proofs.machine.Machine.hand_on.Goals as goal

pub returns-in_err-message : goal.returns-in_err-message
returns-in_err-message c = λ top rest w at shows there.
    let on = given_of c.args.on.now in
    let r = c.args.receiver in
    let g = c.args.found in
    let p = err_from_is_err_and c.from_residual.result c.from_residual.ensures.1 in
    let same : p.0 ≡ c.in_err-message.field-0.0 = p.2 in
    rw (p.1, same) (takes_on on at c.args.selector.now r c.args.arguments.items (top ∷ rest) w c.make_message.new.self (Err c.in_err-message.field-0.0) g there
    (c.in_err-message.ensures.makes w shows.world (λ m. runs_method on (method g.class g.side does_not_understand) g.entry.now.code r (m ∷ []) (top ∷ rest))))

pub run_method-requires-clause-known : goal.run_method-requires-clause-known
run_method-requires-clause-known c =
    subst (IsKnownMessage c.args.on.now.classes.now c.make_message.new.self.objects c.args.receiver) (sym c.in_ok-arguments.ensures.items) (c.in_ok-message.ensures.known c.args.receiver c.requires.known.receiver)

pub returns : goal.returns
returns c = λ top rest w at shows there.
    let on = given_of c.args.on.now in
    let r = c.args.receiver in
    let g = c.args.found in
    let code = g.entry.now.code in
    let m = c.in_ok-message.message in
    let key = method g.class g.side does_not_understand in
    let new = c.run_method.new.self in
    let made = c.in_ok-message.ensures.makes w shows.world in
    let takes = found_takes on c.requires.setting does_not_understand at g (m ∷ []) takes_one there in
    let own : Takes on (method g.class g.side c.args.on.now.unknown) code c.in_ok-arguments.arguments.items =
    subst (λ s. Takes on (method g.class g.side s) code c.in_ok-arguments.arguments.items) (sym c.requires.ready.unknown) (subst (Takes on key code) (sym c.in_ok-arguments.ensures.items) takes) in
    takes_on on at c.args.selector.now r c.args.arguments.items (top ∷ rest) w new c.run_method.result g there
    (subst (λ turn. Came on turn new c.run_method.result) (sym (made.1.2 (λ m. runs_method on key code r (m ∷ []) (top ∷ rest))))
    (subst (λ vs. Came on (runs_method on key code r vs (top ∷ rest) made.1.0) new c.run_method.result) c.in_ok-arguments.ensures.items
    (subst (λ s. Came on (runs_method on (method g.class g.side s) code r c.in_ok-arguments.arguments.items (top ∷ rest) made.1.0) new c.run_method.result) c.requires.ready.unknown
    (c.run_method.ensures top rest made.1.0 (record { contexts = made.0 ∙ shows.contexts; world = made.1.1 }) own))))
