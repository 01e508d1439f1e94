use Rattle.std.proofs.Common.{◌∷◌, Err, None, Some, subst}
use Rattle.s80_prims.specs.Classes.{class_of}
use Rattle.s80_class.specs.Lookup.{IsFound}
use Rattle.s80_machine.specs.Came.{Came, given_of}
use Rattle.s80_machine.specs.Messages.{along, finds, refuses}
use Rattle.s80_machine.proofs.CameMethods.{refused}
use Rattle.s80_machine.proofs.machine.Machine.send_on.Goals as goal

pub returns-in_default : goal.returns-in_default
returns-in_default c = λ top rest w shows.
    let on = given_of c.args.on.now in
    let r = c.args.receiver in
    let selector = c.args.selector.now in
    let at = along on c.args.line in
    refused on at selector r c.args.arguments.items (top ∷ rest) w c.args.self.now (Err c.not_understood.result) (subst (λ s. IsFound (finds on s at) None) c.requires.ready.unknown c.in_default.ensures)
    (subst (λ s. Came on (refuses on (class_of on.table s r) selector w) c.args.self.now (Err c.not_understood.result)) shows.world.objects (c.not_understood.ensures c.args.self.now w shows.world))

pub returns : goal.returns
returns c = λ top rest w shows.
    let on = given_of c.args.on.now in
    let at = along on c.args.line in
    c.hand_on.ensures top rest w at shows (subst (λ s. IsFound (finds on s at) (Some c.in-Some.found)) c.requires.ready.unknown c.in-Some.ensures)
