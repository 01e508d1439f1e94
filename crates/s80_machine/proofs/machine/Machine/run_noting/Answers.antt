use Rattle.std.proofs.Common.{◌∷◌, subst}
use Rattle.s80_class.specs.Lookup.{IsFound, places_up}
use Rattle.s80_class.proofs.lemmas.Lookups.{places_from_class}
use Rattle.s80_machine.specs.declared.sites.Target.TheVariants.{Primitive}
use Rattle.s80_machine.specs.Came.{given_of}
use Rattle.s80_machine.specs.Messages.{finds, performs}
use Rattle.s80_machine.proofs.CameSends.{alive}
use Rattle.s80_machine.proofs.CameMethods.{found_none}
use Rattle.s80_machine.proofs.CameSites.{target_noted}
use Rattle.s80_machine.proofs.machine.Machine.run_noting.Goals as goal

pub returns-in_default : goal.returns-in_default
returns-in_default c = λ top rest w shows sends found.
    let on = given_of c.args.on.now in
    let r = c.args.receiver in
    let values = c.args.arguments.items in
    let selector = c.args.selector.now in
    let at = places_up on.table c.args.sending.class c.args.sending.side in
    let none = subst (IsFound (finds on selector at)) c.in_default.is found in
    found_none on (performs on r values (top ∷ rest)) at selector r values (top ∷ rest) w c.send_on_noting.new.self c.send_on_noting.result none (c.send_on_noting.ensures top rest w shows sends none)

pub returns : goal.returns
returns c = λ top rest w shows sends found.
    let on = given_of c.args.on.now in
    let selector = c.args.selector.now in
    let class = c.args.sending.class in
    let side = c.args.sending.side in
    let at = places_up on.table class side in
    let there = subst (IsFound (finds on selector at)) c.in-Some.is found in
    let noted = target_noted on c.args.self.now (alive (top ∷ rest) w) c.note.new.self c.args.sending.row c.args.sending.place selector class side (Primitive c.in-Some.found) shows sends there c.in_ok-note.ensures in
    c.run_found.ensures top rest w at noted (places_from_class on.table class side) there
