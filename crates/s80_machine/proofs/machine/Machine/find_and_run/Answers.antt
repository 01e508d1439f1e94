use Rattle.std.proofs.Common.{◌∷◌, subst}
use Rattle.s80_class.specs.Lookup.{places_up, IsFound}
use Rattle.s80_machine.specs.Came.{given_of}
use Rattle.s80_machine.specs.Messages.{finds, performs}
use Rattle.s80_machine.proofs.CameSends.{alive}
use Rattle.s80_machine.proofs.CameMethods.{found_takes}
use Rattle.s80_machine.proofs.CameSites.{plain_code_runs}
use Rattle.s80_machine.proofs.machine.Machine.find_and_run.Goals as goal

pub returns-in-Some : goal.returns-in-Some
returns-in-Some c = λ top rest w shows sends.
    let on = given_of c.args.on.now in
    let selector = c.args.selector.now in
    let values = c.args.arguments.items in
    let at = places_up on.table c.args.sending.class c.args.sending.side in
    let there = subst (IsFound (finds on selector at)) c.in-Some.ensures.0 c.find-found.ensures in
    plain_code_runs on (performs on c.args.receiver values (top ∷ rest)) at selector c.args.receiver values (top ∷ rest) w c.activate_noting.new.self c.activate_noting.result c.in-Some.plain there c.in-Some.ensures.1
    (c.activate_noting.ensures (alive (top ∷ rest) w) shows sends there (found_takes on c.requires.setting selector at c.in-Some.plain values c.requires.selector there))

pub returns-in-None : goal.returns-in-None
returns-in-None c = λ top rest w shows sends.
    c.run_noting.ensures top rest w shows sends c.find-found.ensures
