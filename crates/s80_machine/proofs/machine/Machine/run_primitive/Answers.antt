use Rattle.std.proofs.Common.{◌∙◌, ◌∷◌, ap}
use Rattle.s80_prims.specs.Primitives.{primitive}
use Rattle.s80_prims.specs.Rows.{world_of}
use Rattle.s80_machine.specs.World.{method}
use Rattle.s80_machine.specs.Came.{given_of}
use Rattle.s80_machine.proofs.CameSends.{alive}
use Rattle.s80_machine.proofs.CameMethods.{primitive_fails, primitive_stops}
use Rattle.s80_machine.proofs.machine.Machine.run_primitive.Goals as goal

pub returns-in-Fails : goal.returns-in-Fails
returns-in-Fails c = λ top rest w shows takes.
    let m = c.args.self.now in
    let n = c.code.result.now.primitive in
    primitive_fails (given_of c.args.on.now) m top rest w shows (method c.args.found.class c.args.found.side c.args.selector.now) c.args.found.entry.now.code c.args.receiver c.args.arguments.items n
    (ap (λ code. code.primitive) c.code.ensures.code) c.in_ok-applied.applied c.apply.new.objects c.apply.new.transcript
    (c.in_ok-applied.ensures.ok ∙ ap (λ values. primitive c.args.on.now.classes.now n c.args.receiver values (world_of m.objects m.transcript)) c.deref.ensures.value) c.in-Fails.is c.activate_found.new.self
    c.activate_found.result (λ shows. c.activate_found.ensures (alive (top ∷ rest) w) shows takes)

pub returns-in-Stops : goal.returns-in-Stops
returns-in-Stops c = λ top rest w shows takes.
    let m = c.args.self.now in
    let n = c.code.result.now.primitive in
    primitive_stops (given_of c.args.on.now) m top rest w shows (method c.args.found.class c.args.found.side c.args.selector.now) c.args.found.entry.now.code c.args.receiver c.args.arguments.items n
    (ap (λ code. code.primitive) c.code.ensures.code) c.in_ok-applied.applied c.apply.new.objects c.apply.new.transcript
    (c.in_ok-applied.ensures.ok ∙ ap (λ values. primitive c.args.on.now.classes.now n c.args.receiver values (world_of m.objects m.transcript)) c.deref.ensures.value) c.in-Stops.stop c.stop.result c.in-Stops.is
    c.stop.ensures
