use Rattle.std.proofs.Common.{◌≡◌, ◌∙◌, ◌∷◌, ◌==◌, ◌+◌, ◌*◌, ◌<◌, IfSome, None, Some, ap, arith, drop, length, refl, subst, suc, sym}
use Rattle.std.proofs.lemmas.Result.{err_from_is_err_and}
use Rattle.s80_lex.specs.Selector.{IsSelectorOf}
use Rattle.s80_object.specs.declared.value.Value.TheVariants.{ClassRef}
use Rattle.s80_prims.specs.Classes.{class_of}
use Rattle.s80_prims.specs.Known.{IsKnown}
use Rattle.s80_class.specs.Lookup.{IsFound, places_up}
use Rattle.s80_class.proofs.lemmas.Lookups.{places_from_class}
use Rattle.s80_machine.specs.World.{one_tick}
use Rattle.s80_machine.specs.Came.{Came, given_of, places, sends}
use Rattle.s80_machine.specs.Messages.{IsKnownMessage, finds, performs, runs, sends_on}
use Rattle.s80_machine.proofs.CameClasses.{has_class, place_missing, place_there}
use Rattle.s80_machine.proofs.CameMessages.{all_behind, asked_for, one_fewer}
use Rattle.s80_machine.proofs.CameMethods.{found_none, found_takes, performs_found, runs_found}
use Rattle.s80_machine.proofs.CameSends.{tick_goes, tick_stops}
use Rattle.s80_machine.proofs.CameSites.{sent_from}
use Rattle.s80_machine.proofs.machine.Machine.+sending.Goals as goal

pub send_to-returns-in_err-class : goal.send_to-returns-in_err-class
send_to-returns-in_err-class t c =
    let on = given_of c.args.on.now in
    let its = has_class on.table on.methods on.code c.requires.setting c.args.self.now.objects c.requires.known.objects c.args.receiver c.requires.known.receiver in
    absurd (place_missing on.table (class_of on.table c.args.self.now.objects c.args.receiver) its (sym c.in_err-class.ensures.ok_part ∙ c.class_of.ensures))

pub send_to-returns-in_err-tick : goal.send_to-returns-in_err-tick
send_to-returns-in_err-tick t c = λ top rest w shows.
    let on = given_of c.args.on.now in
    let r = c.args.receiver in
    let values = c.args.arguments.items in
    let selector = c.args.selector.now in
    let p = err_from_is_err_and c.from_residual-in_err-tick.result c.from_residual-in_err-tick.ensures.1 in
    let same : p.0 ≡ c.in_err-tick.field-0.0 = p.2 in
    rw (p.1, same) (tick_stops on c.args.self.now w shows.world on.budget (runs on (performs on r values (top ∷ rest)) (places on w r) selector r values (top ∷ rest)) c.tick.new.self c.in_err-tick.field-0.0 c.in_err-tick.ensures)

pub send_to-find-found-requires-clause-class : goal.send_to-find-found-requires-clause-class
send_to-find-found-requires-clause-class t c =
    let on = given_of c.args.on.now in
    let its = has_class on.table on.methods on.code c.requires.setting c.args.self.now.objects c.requires.known.objects c.args.receiver c.requires.known.receiver in
    (place_there on.table (class_of on.table c.args.self.now.objects c.args.receiver) c.in_ok-class.class c.in_ok-class.side its (sym c.in_ok-class.ensures.ok_part ∙ c.class_of.ensures)).1

pub send_to-run_found-requires : goal.send_to-run_found-requires
send_to-run_found-requires t c =
    let on = given_of c.args.on.now in
    let own : 2 * length c.args.arguments.items + 1 ≡ t = c.decreases in
    let down : 2 * length c.args.arguments.items < t = omega (arith, own) in
    let its = has_class on.table on.methods on.code c.requires.setting c.args.self.now.objects c.requires.known.objects c.args.receiver c.requires.known.receiver in
    let class = (place_there on.table (class_of on.table c.args.self.now.objects c.args.receiver) c.in_ok-class.class c.in_ok-class.side its (sym c.in_ok-class.ensures.ok_part ∙ c.class_of.ensures)).1 in
    let known = subst (λ s. IsKnownMessage on.table s c.args.receiver c.args.arguments.items) (sym (ap (λ m. m.objects) c.in_ok-tick.ensures.1)) c.requires.known in
    (down, (c.requires.ready, (c.requires.setting, (known, (c.requires.selector, class)))))

pub send_to-returns : goal.send_to-returns
send_to-returns t c = λ top rest w shows.
    let on = given_of c.args.on.now in
    let m = c.args.self.now in
    let r = c.args.receiver in
    let values = c.args.arguments.items in
    let selector = c.args.selector.now in
    let class = c.in_ok-class.class in
    let side = c.in_ok-class.side in
    let at = places_up on.table class side in
    let its = has_class on.table on.methods on.code c.requires.setting m.objects c.requires.known.objects r c.requires.known.receiver in
    let there = place_there on.table (class_of on.table m.objects r) class side its (sym c.in_ok-class.ensures.ok_part ∙ c.class_of.ensures) in
    sent_from on w class side selector r values (top ∷ rest) c.run_found.new.self c.run_found.result (subst (λ s. class_of on.table s r ≡ ClassRef class side) shows.world.objects there.0)
    (tick_goes on m w (top ∷ rest) on.budget (runs on (performs on r values (top ∷ rest)) at selector r values (top ∷ rest)) c.tick.new.self c.run_found.new.self c.in_ok-tick.field-0 c.run_found.result shows c.in_ok-tick.ensures
    (λ shows. c.run_found.ensures top rest (one_tick w) at shows (places_from_class on.table class side) c.find-found.ensures))

pub run_found-returns-in_default : goal.run_found-returns-in_default
run_found-returns-in_default t c = λ top rest w at shows along found.
    let on = given_of c.args.on.now in
    let r = c.args.receiver in
    let values = c.args.arguments.items in
    let selector = c.args.selector.now in
    found_none on (performs on r values (top ∷ rest)) at selector r values (top ∷ rest) w c.send_on.new.self c.send_on.result (subst (IsFound (finds on selector at)) c.in_default.is found)
    (subst (λ at. Came on (sends_on on at selector r values (top ∷ rest) w) c.send_on.new.self c.send_on.result) along (c.send_on.ensures top rest w shows))

pub run_found-send_to-requires : goal.run_found-send_to-requires
run_found-send_to-requires t c =
    let on = given_of c.args.on.now in
    let values = c.args.arguments.items in
    let behind = c.behind_first.result.items in
    let u = c.in-Some-2.sent in
    let test = c.in-Some.found.entry.now.code.primitive == 83 in
    let objects = c.args.self.now.objects in
    let asked = asked_for objects objects test c.deref.result.now values c.in_ok-sent.field-0 (Some u) c.in-Some-2.is c.in_ok-sent.ensures.is refl c.deref.ensures.value in
    let fewer : suc (length behind) ≡ length values = one_fewer objects test values behind u asked c.behind_first.ensures in
    let own : 2 * length values ≡ t = c.decreases in
    let down : 2 * length behind + 1 < t = omega (arith, own, fewer) in
    let known : IsKnownMessage on.table objects c.args.receiver behind = record {
      objects = c.requires.known.objects;
      receiver = c.requires.known.receiver;
      arguments = rw c.behind_first.ensures (all_behind (IsKnown on.table objects) values c.requires.known.arguments);
    } in
    let takes : IsSelectorOf (length (drop 1 c.deref.result.now)) u = subst (λ o. IfSome o (IsSelectorOf (length (drop 1 c.deref.result.now)))) c.in-Some-2.is c.in_ok-sent.ensures.takes in
    let count : length (drop 1 c.deref.result.now) ≡ length behind = ap (λ vs. length (drop 1 vs)) c.deref.ensures.value ∙ ap length (sym c.behind_first.ensures) in
    (down, (c.requires.ready, (c.requires.setting, (known, subst (λ n. IsSelectorOf n u) count takes))))

pub run_found-returns-in-Some-2 : goal.run_found-returns-in-Some-2
run_found-returns-in-Some-2 t c = λ top rest w at shows along found.
    let on = given_of c.args.on.now in
    let r = c.args.receiver in
    let values = c.args.arguments.items in
    let g = c.in-Some.found in
    let u = c.in-Some-2.sent in
    let test = g.entry.now.code.primitive == 83 in
    let asked = asked_for c.args.self.now.objects w.objects test c.deref.result.now values c.in_ok-sent.field-0 (Some u) c.in-Some-2.is c.in_ok-sent.ensures.is shows.world.objects c.deref.ensures.value in
    performs_found on at c.args.selector.now r values (top ∷ rest) w c.send_to.new.self c.send_to.result g (subst (IsFound (finds on c.args.selector.now at)) c.in-Some.is found) u asked
    (subst (λ vs. Came on (sends on (places on w r) u r vs (top ∷ rest) w) c.send_to.new.self c.send_to.result) c.behind_first.ensures (c.send_to.ensures top rest w shows))

pub run_found-returns-in-None : goal.run_found-returns-in-None
run_found-returns-in-None t c = λ top rest w at shows along found.
    let on = given_of c.args.on.now in
    let r = c.args.receiver in
    let selector = c.args.selector.now in
    let values = c.args.arguments.items in
    let g = c.in-Some.found in
    let there = subst (IsFound (finds on selector at)) c.in-Some.is found in
    let test = g.entry.now.code.primitive == 83 in
    let asked = asked_for c.args.self.now.objects w.objects test c.deref.result.now values c.in_ok-sent.field-0 None c.in-None.is c.in_ok-sent.ensures.is shows.world.objects c.deref.ensures.value in
    runs_found on at selector r values (top ∷ rest) w c.run_method.new.self c.run_method.result g there asked
    (c.run_method.ensures top rest w shows (found_takes on c.requires.setting selector at g values c.requires.selector there))
