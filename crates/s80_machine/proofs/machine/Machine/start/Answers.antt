use Rattle.std.proofs.Common.{◌≤◌, ◌++◌, ◌-◌, [], ap, arith, length, refl, replicate, subst}
use Rattle.s80_object.specs.declared.value.Value.TheVariants.{Nil}
use Rattle.s80_machine.specs.World.{doit, first_world, numbered}
use Rattle.s80_machine.specs.Step.{started}
use Rattle.s80_machine.specs.Came.{Came, given_of}
use Rattle.s80_machine.proofs.CameSteps.{state}
use Rattle.s80_machine.proofs.CameRuns.{doit_number, doit_there, shows_doit}
use Rattle.s80_machine.proofs.machine.Machine.start.Goals as goal

pub returns : goal.returns
returns c =
    let on = given_of c.args.on.now in
    let m = c.args.self.now in
    let methods = c.number_of_doit.new.self in
    let number = c.in_ok-doit.doit in
    let w = numbered (first_world on.table) doit in
    let few : length c.new.result.items ≤ c.args.on.now.doit.now.temporaries = omega (arith, ap length c.new.ensures.items) in
    subst (λ xs. Came on (started on.table on.methods on.code on.budget doit on.code Nil (xs ++ replicate (on.code.temporaries - length xs) Nil) [] w) c.activate_method.new.self c.activate_method.result)
    c.new.ensures.items
    (c.activate_method.ensures (state [] w) doit on.code (shows_doit on m methods number c.requires c.in_ok-doit.ensures) (doit_there on m methods number c.requires c.in_ok-doit.ensures)
    (doit_number on m methods number c.requires c.in_ok-doit.ensures) refl few)
