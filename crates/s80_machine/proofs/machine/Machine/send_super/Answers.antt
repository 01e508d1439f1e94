use Rattle.std.proofs.Common.{◌≡◌, ◌∙◌, ◌∷◌, Err, Some, ap, slice_get, refl, subst, sym}
use Rattle.std.specs.Option.{option_copied}
use Rattle.std.proofs.lemmas.Result.{err_from_is_err_and}
use Rattle.s80_lex.specs.Selector.{IsSelectorOf}
use Rattle.s80_class.specs.Lookup.{IsFound}
use Rattle.s80_machine.specs.Turn.{Context, waiting}
use Rattle.s80_machine.specs.World.{one_tick}
use Rattle.s80_machine.specs.Came.{Came, above, given_of, sends}
use Rattle.s80_machine.specs.Messages.{IsKnownMessage, along, finds, performs, runs}
use Rattle.s80_machine.proofs.CameClasses.{above_places}
use Rattle.s80_machine.proofs.CameSends.{active_is, active_known, not_taken, taken, taken_known, tick_goes, tick_stops}
use Rattle.s80_machine.proofs.machine.Machine.send_super.Goals as goal

pub returns-in_err-arguments : goal.returns-in_err-arguments
returns-in_err-arguments c = λ top rest w next key shows is.
    let on = given_of c.args.on.now in
    let p = err_from_is_err_and c.from_residual-in_err-arguments.result c.from_residual-in_err-arguments.ensures.1 in
    let same : p.0 ≡ c.in_err-arguments.field-0.0 = p.2 in
    rw (p.1, same) (not_taken (λ p. (p.0, p.1.items)) c.args.count c.args.count refl on c.args.self.now (record c.args.self.now { contexts = c.take_message.new.self }) top rest w next c.take_message.new.self c.in_err-arguments.field-0.0
    (λ r values stack. sends on (above on key) c.args.selector.now top.receiver values (waiting top next stack ∷ rest) w) shows c.in_err-arguments.ensures)

pub returns-in_err-tick : goal.returns-in_err-tick
returns-in_err-tick c = λ top rest w next key shows is.
    let on = given_of c.args.on.now in
    let values = c.in_ok-arguments.arguments.items in
    let selector = c.args.selector.now in
    let p = err_from_is_err_and c.from_residual-in_err-tick.result c.from_residual-in_err-tick.ensures.1 in
    let same : p.0 ≡ c.in_err-tick.field-0.0 = p.2 in
    rw (p.1, same) (taken (λ p. (p.0, p.1.items)) c.args.count c.args.count refl on c.args.self.now c.tick.new.self top rest w next c.take_message.new.self (c.in_ok-arguments.field-0-0, c.in_ok-arguments.arguments) (Err c.in_err-tick.field-0.0)
    (λ r values stack. sends on (above on key) selector top.receiver values (waiting top next stack ∷ rest) w) shows c.in_ok-arguments.ensures
    (λ stack shows.
    tick_stops on (record c.args.self.now { contexts = c.take_message.new.self }) w shows.world on.budget
    (runs on (performs on top.receiver values (waiting top next stack ∷ rest)) (above on key) selector top.receiver values (waiting top next stack ∷ rest)) c.tick.new.self c.in_err-tick.field-0.0 c.in_err-tick.ensures))

pub run_found-requires-clause-known : goal.run_found-requires-clause-known
run_found-requires-clause-known c =
    let t = c.args.on.now.classes.now in
    let m = c.args.self.now in
    let known = taken_known (λ p. (p.0, p.1.items)) c.args.count t m c.take_message.new.self (c.in_ok-arguments.field-0-0, c.in_ok-arguments.arguments) c.requires.known c.in_ok-arguments.ensures in
    let active : slice_get m.contexts 0 ≡ Some c.in_ok-active.active.now = sym c.active.ensures ∙ ap option_copied c.in_ok-active.ensures.ok_part in
    let receiver : c.active-2.inside.receiver ≡ c.in_ok-active.active.now.receiver = ap (λ (a : Context). a.receiver) c.active-2.view_is in
    let all : IsKnownMessage t m.objects c.in_ok-active.active.now.receiver c.in_ok-arguments.arguments.items = record {
      objects = c.requires.known.objects;
      receiver = active_known t m c.requires.receiver c.in_ok-active.active.now active;
      arguments = known.arguments;
    } in
    subst (λ r. IsKnownMessage t c.tick.new.self.objects r c.in_ok-arguments.arguments.items) (sym receiver)
    (subst (λ s. IsKnownMessage t s c.in_ok-active.active.now.receiver c.in_ok-arguments.arguments.items) (sym (ap (λ m. m.objects) c.in_ok-tick.ensures.1)) all)

pub run_found-requires-clause-selector : goal.run_found-requires-clause-selector
run_found-requires-clause-selector c =
    let known =
    taken_known (λ p. (p.0, p.1.items)) c.args.count c.args.on.now.classes.now c.args.self.now c.take_message.new.self (c.in_ok-arguments.field-0-0, c.in_ok-arguments.arguments) c.requires.known c.in_ok-arguments.ensures in
    subst (λ n. IsSelectorOf n c.args.selector.now) (sym known.count) c.requires.selector

pub returns : goal.returns
returns c = λ top rest w next key shows is.
    let on = given_of c.args.on.now in
    let m = c.args.self.now in
    let values = c.in_ok-arguments.arguments.items in
    let selector = c.args.selector.now in
    let active : slice_get m.contexts 0 ≡ Some c.in_ok-active.active.now = sym c.active.ensures ∙ ap option_copied c.in_ok-active.ensures.ok_part in
    let same = c.active-2.view_is ∙ active_is on m top rest w next shows c.in_ok-active.active.now active in
    let place = sym c.in_ok-class.ensures.ok_part ∙ c.place_of.ensures.place in
    let above_it : along on c.line_above-line.result ≡ above on key =
    c.line_above-line.ensures.places ∙ above_places on m.methods w.keys c.active-2.inside.method top.method key (c.in_ok-class.class, c.in_ok-class.side) shows.world.keys is (ap (λ (a : Context). a.method) same) place in
    let found = subst (λ at. IsFound (finds on selector at) c.find_along-found.result) above_it c.find_along-found.ensures in
    taken (λ p. (p.0, p.1.items)) c.args.count c.args.count refl on m c.run_found.new.self top rest w next c.take_message.new.self (c.in_ok-arguments.field-0-0, c.in_ok-arguments.arguments) c.run_found.result
    (λ r values stack. sends on (above on key) selector top.receiver values (waiting top next stack ∷ rest) w) shows c.in_ok-arguments.ensures
    (λ stack shows.
    let below = waiting top next stack ∷ rest in
    tick_goes on (record m { contexts = c.take_message.new.self }) w below on.budget (runs on (performs on top.receiver values below) (above on key) selector top.receiver values below) c.tick.new.self c.run_found.new.self
    c.in_ok-tick.field-0 c.run_found.result shows c.in_ok-tick.ensures
    (λ shows.
    subst (λ r. Came on (runs on (performs on r values below) (above on key) selector r values below (one_tick w)) c.run_found.new.self c.run_found.result) (ap (λ (a : Context). a.receiver) same)
    (c.run_found.ensures (waiting top next stack) rest (one_tick w) (above on key) shows above_it found)))
