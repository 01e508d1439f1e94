use Rattle.std.proofs.Common.{◌++◌, ◌-◌, length, replicate}
use Rattle.s80_object.specs.declared.value.Value.TheVariants.{Nil}
use Rattle.s80_machine.specs.World.{method, numbered}
use Rattle.s80_machine.specs.Step.{started}
use Rattle.s80_machine.specs.Came.{given_of}
use Rattle.s80_machine.proofs.CameSends.{alive, goes_deeper, method_numbered}
use Rattle.s80_machine.proofs.machine.Machine.activate_found.Goals as goal

pub returns : goal.returns
returns c = λ s shows takes.
    let on = given_of c.args.on.now in
    let key = method c.args.found.class c.args.found.side c.args.selector.now in
    let of = c.args.found.entry.now.code in
    let values = c.args.arguments.items in
    let n = method_numbered on c.args.self.now s key of c.number.new.self c.in_ok-method.method shows takes.code_is c.in_ok-method.ensures in
    goes_deeper on c.args.self.now s.world s.contexts
    (started on.table on.methods on.code on.budget key of c.args.receiver (values ++ replicate (of.temporaries - length values) Nil) s.contexts (numbered s.world key)) c.activate_method.new.self
    c.in_ok-check_depth.field-0 c.activate_method.result shows c.in_ok-check_depth.ensures
    (c.activate_method.ensures (alive s.contexts (numbered s.world key)) key of n.shows n.there n.own takes.code_is takes.few)
