use Rattle.std.proofs.Common.{◌++◌, ◌-◌, length, replicate}
use Rattle.s80_object.specs.declared.value.Value.TheVariants.{Nil}
use Rattle.s80_machine.specs.World.{method, numbered}
use Rattle.s80_machine.specs.Step.{started}
use Rattle.s80_machine.specs.Came.{given_of}
use Rattle.s80_machine.proofs.CameSends.{alive, goes_deeper, method_numbered}
use Rattle.s80_machine.proofs.CameSites.{noted_after}
use Rattle.s80_machine.proofs.machine.Machine.activate_noting.Goals as goal

pub returns : goal.returns
returns c = λ s shows sends found takes.
    let on = given_of c.args.on.now in
    let m = c.args.self.now in
    let g = c.args.found in
    let key = method g.class g.side c.args.selector.now in
    let of = g.entry.now.code in
    let values = c.args.arguments.items in
    let number = c.in_ok-number.number in
    let n = method_numbered on m s key of c.number.new.self number shows takes.code_is c.in_ok-number.ensures in
    let noted = noted_after on m s c.args.sending.row c.args.sending.place c.args.selector.now c.args.sending.class c.args.sending.side number g c.number.new.self c.note.new.self sends found c.requires.plain n c.in_ok-note.ensures in
    goes_deeper on m s.world s.contexts (started on.table on.methods on.code on.budget key of c.args.receiver (values ++ replicate (of.temporaries - length values) Nil) s.contexts (numbered s.world key)) c.activate_method.new.self
    c.in_ok-check_depth.field-0 c.activate_method.result shows c.in_ok-check_depth.ensures (c.activate_method.ensures (alive s.contexts (numbered s.world key)) key of noted n.there n.own takes.code_is takes.few)
