use Rattle.std.proofs.Common.{◌∷◌, Err, None, Some, subst}
use Rattle.s80_prims.specs.Classes.{class_of}
use Rattle.s80_class.specs.Lookup.{IsFound, places_up}
use Rattle.s80_machine.specs.declared.sites.Target.TheVariants.{Handler}
use Rattle.s80_machine.specs.Came.{Came, given_of}
use Rattle.s80_machine.specs.Messages.{finds, refuses}
use Rattle.s80_machine.proofs.CameSends.{alive}
use Rattle.s80_machine.proofs.CameMethods.{refused}
use Rattle.s80_machine.proofs.CameSites.{target_noted}
use Rattle.s80_machine.proofs.machine.Machine.send_on_noting.Goals as goal

pub returns-in_default : goal.returns-in_default
returns-in_default c = λ top rest w shows sends none.
    let on = given_of c.args.on.now in
    let r = c.args.receiver in
    let selector = c.args.selector.now in
    let at = places_up on.table c.args.sending.class c.args.sending.side in
    let halt = c.not_understood-halt.result in
    refused on at selector r c.args.arguments.items (top ∷ rest) w c.args.self.now (Err halt) (subst (λ s. IsFound (finds on s at) None) c.requires.ready.unknown c.in_default.ensures)
    (subst (λ s. Came on (refuses on (class_of on.table s r) selector w) c.args.self.now (Err halt)) shows.world.objects (c.not_understood-halt.ensures c.args.self.now w shows.world))

pub returns : goal.returns
returns c = λ top rest w shows sends none.
    let on = given_of c.args.on.now in
    let selector = c.args.selector.now in
    let class = c.args.sending.class in
    let side = c.args.sending.side in
    let at = places_up on.table class side in
    let g = c.in-Some.found in
    let there = subst (λ s. IsFound (finds on s at) (Some g)) c.requires.ready.unknown c.in-Some.ensures in
    let noted = target_noted on c.args.self.now (alive (top ∷ rest) w) c.note.new.self c.args.sending.row c.args.sending.place selector class side (Handler g) shows sends (none, there) c.in_ok-note.ensures in
    c.hand_on.ensures top rest w at noted there
