use Rattle.std.proofs.Common.{◌∷◌, subst}
use Rattle.s80_class.specs.Lookup.{places_up}
use Rattle.s80_class.proofs.lemmas.Lookups.{places_from_class}
use Rattle.s80_machine.specs.World.{method}
use Rattle.s80_machine.specs.Came.{given_of}
use Rattle.s80_machine.specs.Messages.{performs}
use Rattle.s80_machine.specs.Sites.{IsTarget}
use Rattle.s80_machine.proofs.CameSends.{alive}
use Rattle.s80_machine.proofs.CameMethods.{found_none, takes_found}
use Rattle.s80_machine.proofs.CameSites.{hits, plain_runs}
use Rattle.s80_machine.proofs.machine.Machine.go_again.Goals as goal

pub returns-in-Numbered : goal.returns-in-Numbered
returns-in-Numbered c = λ top rest w shows goes.
    let on = given_of c.args.on.now in
    let r = c.args.receiver in
    let values = c.args.arguments.items in
    let selector = c.args.selector.now in
    let at = places_up on.table c.args.sending.class c.args.sending.side in
    let hit = hits on w selector at c.in-Numbered.number (subst (IsTarget on w.keys selector at) c.in-Numbered.is goes) in
    plain_runs on (performs on r values (top ∷ rest)) at selector r values (top ∷ rest) w c.activate_again.new.self c.activate_again.result hit.found hit.is hit.plain
    (c.activate_again.ensures (alive (top ∷ rest) w) (method hit.found.class hit.found.side selector) hit.found.entry.code shows hit.there hit.own
    (takes_found on c.requires.setting selector at hit.found values c.requires.selector hit.is))

pub returns-in-Primitive : goal.returns-in-Primitive
returns-in-Primitive c = λ top rest w shows goes.
    let on = given_of c.args.on.now in
    let at = places_up on.table c.args.sending.class c.args.sending.side in
    c.run_found.ensures top rest w at shows (places_from_class on.table c.args.sending.class c.args.sending.side) (subst (IsTarget on w.keys c.args.selector.now at) c.in-Primitive.is goes)

pub returns-in-Handler : goal.returns-in-Handler
returns-in-Handler c = λ top rest w shows goes.
    let on = given_of c.args.on.now in
    let r = c.args.receiver in
    let values = c.args.arguments.items in
    let selector = c.args.selector.now in
    let at = places_up on.table c.args.sending.class c.args.sending.side in
    let there = subst (IsTarget on w.keys selector at) c.in-Handler.is goes in
    found_none on (performs on r values (top ∷ rest)) at selector r values (top ∷ rest) w c.hand_on.new.self c.hand_on.result there.0 (c.hand_on.ensures top rest w at shows there.1)
