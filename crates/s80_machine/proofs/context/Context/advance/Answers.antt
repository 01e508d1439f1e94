use Rattle.std.proofs.Common.{subst, rules, w32, SFits}
use Rattle.std.proofs.lemmas.Int.{to_z-of_z}
use Rattle.s80_code.specs.declared.instruction.Instruction.TheVariants.{Jump, JumpOnFalse, JumpOnTrue}
use Rattle.s80_machine.specs.Stretch.{Tries, local}
use Rattle.s80_machine.proofs.CameStretch.{tries_as}
use Rattle.s80_machine.proofs.context.Context.advance.Goals as goal

pub returns-in-Jump-clause-tries : goal.returns-in-Jump-clause-tries
returns-in-Jump-clause-tries c = λ on code same.
    let old = local c.args.self.now c.args.objects.now c.args.ticks.now in
    let new = local c.jump_or_back.new.self c.args.objects.now c.jump_or_back.new.ticks in
    let fits : SFits w32 c.in-Jump.distance = search rules in
    tries_as on code c.args.instruction (Jump c.in-Jump.distance) c.args.next old new c.jump_or_back.result c.in-Jump.is
    (subst (λ z. Tries on code (Jump z) c.args.next old new c.jump_or_back.result) (to_z-of_z w32 c.in-Jump.distance fits) (c.jump_or_back.ensures.tries on code c.args.objects.now same.budget))

pub returns-in-JumpOnTrue-clause-tries : goal.returns-in-JumpOnTrue-clause-tries
returns-in-JumpOnTrue-clause-tries c = λ on code same.
    let old = local c.args.self.now c.args.objects.now c.args.ticks.now in
    let new = local c.jump_on.new.self c.args.objects.now c.args.ticks.now in
    let fits : SFits w32 c.in-JumpOnTrue.distance = search rules in
    tries_as on code c.args.instruction (JumpOnTrue c.in-JumpOnTrue.distance) c.args.next old new c.jump_on.result c.in-JumpOnTrue.is
    (subst (λ z. Tries on code (JumpOnTrue z) c.args.next old new c.jump_on.result) (to_z-of_z w32 c.in-JumpOnTrue.distance fits) (c.jump_on.ensures.tries on code c.args.objects.now c.args.ticks.now))

pub returns-in-JumpOnFalse-clause-tries : goal.returns-in-JumpOnFalse-clause-tries
returns-in-JumpOnFalse-clause-tries c = λ on code same.
    let old = local c.args.self.now c.args.objects.now c.args.ticks.now in
    let new = local c.jump_on-in-JumpOnFalse.new.self c.args.objects.now c.args.ticks.now in
    let fits : SFits w32 c.in-JumpOnFalse.distance = search rules in
    tries_as on code c.args.instruction (JumpOnFalse c.in-JumpOnFalse.distance) c.args.next old new c.jump_on-in-JumpOnFalse.result c.in-JumpOnFalse.is
    (subst (λ z. Tries on code (JumpOnFalse z) c.args.next old new c.jump_on-in-JumpOnFalse.result) (to_z-of_z w32 c.in-JumpOnFalse.distance fits) (c.jump_on-in-JumpOnFalse.ensures.tries on code c.args.objects.now c.args.ticks.now))
