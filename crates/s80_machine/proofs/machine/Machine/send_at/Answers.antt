use Rattle.std.proofs.Common.{◌≡◌, ◌∙◌, ◌∷◌, ap, subst, sym}
use Rattle.std.proofs.lemmas.Result.{err_from_is_err_and}
use Rattle.s80_prims.specs.Classes.{class_of}
use Rattle.s80_object.specs.declared.value.Value.TheVariants.{ClassRef}
use Rattle.s80_class.specs.Lookup.{places_up}
use Rattle.s80_machine.specs.declared.sites.Site.{Site}
use Rattle.s80_machine.specs.World.{one_tick}
use Rattle.s80_machine.specs.Came.{given_of, places}
use Rattle.s80_machine.specs.Messages.{IsKnownMessage, performs, runs}
use Rattle.s80_machine.proofs.CameClasses.{has_class, place_missing, place_there}
use Rattle.s80_machine.proofs.CameSends.{tick_goes, tick_stops}
use Rattle.s80_machine.proofs.CameSites.{noted_goes, sent_from}
use Rattle.s80_machine.proofs.machine.Machine.send_at.Goals as goal

pub returns-in_err-class : goal.returns-in_err-class
returns-in_err-class c =
    let on = given_of c.args.on.now in
    let its = has_class on.table on.methods on.code c.requires.setting c.args.self.now.objects c.requires.known.objects c.args.receiver c.requires.known.receiver in
    absurd (place_missing on.table (class_of on.table c.args.self.now.objects c.args.receiver) its (sym c.in_err-class.ensures.ok_part ∙ c.class_of.ensures))

pub returns-in_err-tick : goal.returns-in_err-tick
returns-in_err-tick c = λ top rest w shows sends.
    let on = given_of c.args.on.now in
    let r = c.args.receiver in
    let values = c.args.arguments.items in
    let selector = c.args.selector.now in
    let p = err_from_is_err_and c.from_residual-in_err-tick.result c.from_residual-in_err-tick.ensures.1 in
    let same : p.0 ≡ c.in_err-tick.field-0.0 = p.2 in
    rw (p.1, same) (tick_stops on c.args.self.now w shows.world on.budget (runs on (performs on r values (top ∷ rest)) (places on w r) selector r values (top ∷ rest)) c.tick.new.self c.in_err-tick.field-0.0 c.in_err-tick.ensures)

pub go_again-requires-clause-known : goal.go_again-requires-clause-known
go_again-requires-clause-known c =
    let on = given_of c.args.on.now in
    subst (λ s. IsKnownMessage on.table s c.args.receiver c.args.arguments.items) (sym (ap (λ m. m.objects) c.in_ok-tick.ensures.1)) c.requires.known

pub go_again-requires-clause-class : goal.go_again-requires-clause-class
go_again-requires-clause-class c =
    let on = given_of c.args.on.now in
    let its = has_class on.table on.methods on.code c.requires.setting c.args.self.now.objects c.requires.known.objects c.args.receiver c.requires.known.receiver in
    (place_there on.table (class_of on.table c.args.self.now.objects c.args.receiver) c.in_ok-class.class c.in_ok-class.side its (sym c.in_ok-class.ensures.ok_part ∙ c.class_of.ensures)).1

pub find_and_run-requires-clause-known : goal.find_and_run-requires-clause-known
find_and_run-requires-clause-known c =
    let on = given_of c.args.on.now in
    subst (λ s. IsKnownMessage on.table s c.args.receiver c.args.arguments.items) (sym (ap (λ m. m.objects) c.in_ok-tick.ensures.1)) c.requires.known

pub find_and_run-requires-clause-class : goal.find_and_run-requires-clause-class
find_and_run-requires-clause-class c =
    let on = given_of c.args.on.now in
    let its = has_class on.table on.methods on.code c.requires.setting c.args.self.now.objects c.requires.known.objects c.args.receiver c.requires.known.receiver in
    (place_there on.table (class_of on.table c.args.self.now.objects c.args.receiver) c.in_ok-class.class c.in_ok-class.side its (sym c.in_ok-class.ensures.ok_part ∙ c.class_of.ensures)).1

pub returns-in-Some : goal.returns-in-Some
returns-in-Some c = λ top rest w shows sends.
    let on = given_of c.args.on.now in
    let m = c.args.self.now in
    let r = c.args.receiver in
    let values = c.args.arguments.items in
    let selector = c.args.selector.now in
    let class = c.in_ok-class.class in
    let side = c.in_ok-class.side in
    let at = places_up on.table class side in
    let its = has_class on.table on.methods on.code c.requires.setting m.objects c.requires.known.objects r c.requires.known.receiver in
    let there = place_there on.table (class_of on.table m.objects r) class side its (sym c.in_ok-class.ensures.ok_part ∙ c.class_of.ensures) in
    let site : Site = record { class = class; side = side; target = c.in-Some.target } in
    sent_from on w class side selector r values (top ∷ rest) c.go_again.new.self c.go_again.result (subst (λ s. class_of on.table s r ≡ ClassRef class side) shows.world.objects there.0)
    (tick_goes on m w (top ∷ rest) on.budget (runs on (performs on r values (top ∷ rest)) at selector r values (top ∷ rest)) c.tick.new.self c.go_again.new.self c.in_ok-tick.field-0 c.go_again.result shows c.in_ok-tick.ensures
    (λ ticked.
    c.go_again.ensures top rest (one_tick w) ticked
    (noted_goes on w.keys c.args.row c.args.place selector site sends (ticked.world.sites c.args.row c.args.place site c.in-Some.ensures))))

pub returns-in-None : goal.returns-in-None
returns-in-None c = λ top rest w shows sends.
    let on = given_of c.args.on.now in
    let m = c.args.self.now in
    let r = c.args.receiver in
    let values = c.args.arguments.items in
    let selector = c.args.selector.now in
    let class = c.in_ok-class.class in
    let side = c.in_ok-class.side in
    let at = places_up on.table class side in
    let its = has_class on.table on.methods on.code c.requires.setting m.objects c.requires.known.objects r c.requires.known.receiver in
    let there = place_there on.table (class_of on.table m.objects r) class side its (sym c.in_ok-class.ensures.ok_part ∙ c.class_of.ensures) in
    sent_from on w class side selector r values (top ∷ rest) c.find_and_run.new.self c.find_and_run.result (subst (λ s. class_of on.table s r ≡ ClassRef class side) shows.world.objects there.0)
    (tick_goes on m w (top ∷ rest) on.budget (runs on (performs on r values (top ∷ rest)) at selector r values (top ∷ rest)) c.tick.new.self c.find_and_run.new.self c.in_ok-tick.field-0 c.find_and_run.result shows c.in_ok-tick.ensures
    (λ ticked. c.find_and_run.ensures top rest (one_tick w) ticked sends))
