use Rattle.std.proofs.Common.{◌++◌, ◌-◌, length, replicate, subst, sym}
use Rattle.s80_object.specs.declared.value.Value.TheVariants.{Nil}
use Rattle.s80_machine.specs.World.{numbered}
use Rattle.s80_machine.specs.Step.{started}
use Rattle.s80_machine.specs.Came.{Came, given_of}
use Rattle.s80_machine.proofs.CameSends.{goes_deeper}
use Rattle.s80_machine.proofs.CameSites.{is_numbered}
use Rattle.s80_machine.proofs.machine.Machine.activate_again.Goals as goal

pub returns : goal.returns
returns c = λ s key code shows there own takes.
    let on = given_of c.args.on.now in
    let values = c.args.arguments.items in
    let temporaries = values ++ replicate (code.temporaries - length values) Nil in
    let started_in = started on.table on.methods on.code on.budget key code c.args.receiver temporaries s.contexts in
    goes_deeper on c.args.self.now s.world s.contexts (started_in (numbered s.world key)) c.activate_method.new.self c.in_ok-check_depth.field-0 c.activate_method.result shows c.in_ok-check_depth.ensures
    (subst (λ w. Came on (started_in w) c.activate_method.new.self c.activate_method.result) (sym (is_numbered s.world key c.args.number there)) (c.activate_method.ensures s key code shows there own takes.code_is takes.few))
