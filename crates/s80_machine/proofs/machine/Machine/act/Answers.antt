use Rattle.std.proofs.Common.{◌∙◌, ap, subst, rules, w32, SFits}
use Rattle.std.proofs.lemmas.Int.{to_z-of_z}
use Rattle.s80_code.specs.declared.instruction.Instruction.TheVariants.{Duplicate, Jump, JumpOnFalse, JumpOnTrue, Pop, PopInto, Push, PushFixed, ReturnFixed, ReturnFromBlock, ReturnTop, Send, SendSpecial, SendSuper, Store}
use Rattle.s80_machine.specs.Came.{given_of}
use Rattle.s80_machine.specs.Acts.{Acts}
use Rattle.s80_machine.proofs.CameSteps.{acts_as}
use Rattle.s80_machine.proofs.machine.Machine.act.Goals as goal

pub returns-in-Push : goal.returns-in-Push
returns-in-Push c =
    acts_as (given_of c.args.on.now) c.args.code.now c.args.next c.args.instruction (Push c.in-Push.storage) c.args.self.now c.push_stored.new.self c.push_stored.result c.in-Push.is
    (λ d rest w shows. c.push_stored.ensures d rest w c.args.next shows)

pub returns-in-Store : goal.returns-in-Store
returns-in-Store c =
    acts_as (given_of c.args.on.now) c.args.code.now c.args.next c.args.instruction (Store c.in-Store.storage) c.args.self.now c.store_top.new.self c.store_top.result c.in-Store.is
    (c.store_top.ensures c.args.next)

pub returns-in-PopInto : goal.returns-in-PopInto
returns-in-PopInto c =
    acts_as (given_of c.args.on.now) c.args.code.now c.args.next c.args.instruction (PopInto c.in-PopInto.storage) c.args.self.now c.pop_into.new.self c.pop_into.result c.in-PopInto.is
    (c.pop_into.ensures c.args.next)

pub returns-in-PushFixed : goal.returns-in-PushFixed
returns-in-PushFixed c =
    acts_as (given_of c.args.on.now) c.args.code.now c.args.next c.args.instruction (PushFixed c.in-PushFixed.number) c.args.self.now c.push_fixed.new.self c.push_fixed.result c.in-PushFixed.is
    (c.push_fixed.ensures (given_of c.args.on.now) c.args.code.now c.args.next)

pub returns-in-ReturnFixed : goal.returns-in-ReturnFixed
returns-in-ReturnFixed c =
    acts_as (given_of c.args.on.now) c.args.code.now c.args.next c.args.instruction (ReturnFixed c.in-ReturnFixed.number) c.args.self.now c.return_fixed.new.self c.return_fixed.result c.in-ReturnFixed.is
    (c.return_fixed.ensures (given_of c.args.on.now) c.args.code.now c.args.next)

pub returns-in-ReturnTop : goal.returns-in-ReturnTop
returns-in-ReturnTop c =
    acts_as (given_of c.args.on.now) c.args.code.now c.args.next c.args.instruction (ReturnTop) c.args.self.now c.return_top.new.self c.return_top.result c.in-ReturnTop.is
    (c.return_top.ensures (given_of c.args.on.now) c.args.code.now c.args.next)

pub returns-in-ReturnFromBlock : goal.returns-in-ReturnFromBlock
returns-in-ReturnFromBlock c =
    acts_as (given_of c.args.on.now) c.args.code.now c.args.next c.args.instruction (ReturnFromBlock) c.args.self.now c.return_to_caller.new.self c.return_to_caller.result c.in-ReturnFromBlock.is
    (c.return_to_caller.ensures (given_of c.args.on.now) c.args.code.now c.args.next)

pub returns-in-Send : goal.returns-in-Send
returns-in-Send c =
    acts_as (given_of c.args.on.now) c.args.code.now c.args.next c.args.instruction (Send c.in-Send.arguments c.in-Send.selector) c.args.self.now c.send_literal.new.self c.send_literal.result c.in-Send.is
    (c.send_literal.ensures c.args.next)

pub returns-in-SendSuper : goal.returns-in-SendSuper
returns-in-SendSuper c =
    acts_as (given_of c.args.on.now) c.args.code.now c.args.next c.args.instruction (SendSuper c.in-SendSuper.arguments c.in-SendSuper.selector) c.args.self.now c.send_literal_super.new.self c.send_literal_super.result c.in-SendSuper.is
    (c.send_literal_super.ensures c.args.next)

pub returns-in-SendSpecial : goal.returns-in-SendSpecial
returns-in-SendSpecial c =
    acts_as (given_of c.args.on.now) c.args.code.now c.args.next c.args.instruction (SendSpecial c.in-SendSpecial.number) c.args.self.now c.send_short.new.self c.send_short.result c.in-SendSpecial.is
    (c.send_short.ensures c.args.code.now)

pub send_short-requires-clause-few : goal.send_short-requires-clause-few
send_short-requires-clause-few c = λ copies. c.requires.few (c.in-SendSpecial.is ∙ ap SendSpecial copies)

pub returns-in-Pop : goal.returns-in-Pop
returns-in-Pop c =
    acts_as (given_of c.args.on.now) c.args.code.now c.args.next c.args.instruction (Pop) c.args.self.now c.pop.new.self c.pop.result c.in-Pop.is
    (c.pop.ensures (given_of c.args.on.now) c.args.code.now c.args.next)

pub returns-in-Duplicate : goal.returns-in-Duplicate
returns-in-Duplicate c =
    acts_as (given_of c.args.on.now) c.args.code.now c.args.next c.args.instruction (Duplicate) c.args.self.now c.duplicate.new.self c.duplicate.result c.in-Duplicate.is
    (c.duplicate.ensures (given_of c.args.on.now) c.args.code.now c.args.next)

pub returns-in-Jump : goal.returns-in-Jump
returns-in-Jump c =
    acts_as (given_of c.args.on.now) c.args.code.now c.args.next c.args.instruction (Jump c.in-Jump.distance) c.args.self.now c.jump_or_back.new.self c.jump_or_back.result c.in-Jump.is
    (let fits : SFits w32 c.in-Jump.distance = search rules in
    subst (λ z. Acts (given_of c.args.on.now) c.args.code.now c.args.next (Jump z) c.args.self.now c.jump_or_back.new.self c.jump_or_back.result) (to_z-of_z w32 c.in-Jump.distance fits)
    (c.jump_or_back.ensures c.args.code.now))

pub returns-in-JumpOnTrue : goal.returns-in-JumpOnTrue
returns-in-JumpOnTrue c =
    acts_as (given_of c.args.on.now) c.args.code.now c.args.next c.args.instruction (JumpOnTrue c.in-JumpOnTrue.distance) c.args.self.now c.jump_on.new.self c.jump_on.result c.in-JumpOnTrue.is
    (let fits : SFits w32 c.in-JumpOnTrue.distance = search rules in
    subst (λ z. Acts (given_of c.args.on.now) c.args.code.now c.args.next (JumpOnTrue z) c.args.self.now c.jump_on.new.self c.jump_on.result) (to_z-of_z w32 c.in-JumpOnTrue.distance fits)
    (c.jump_on.ensures (given_of c.args.on.now) c.args.code.now))

pub returns-in-JumpOnFalse : goal.returns-in-JumpOnFalse
returns-in-JumpOnFalse c =
    acts_as (given_of c.args.on.now) c.args.code.now c.args.next c.args.instruction (JumpOnFalse c.in-JumpOnFalse.distance) c.args.self.now c.jump_on-in-JumpOnFalse.new.self c.jump_on-in-JumpOnFalse.result c.in-JumpOnFalse.is
    (let fits : SFits w32 c.in-JumpOnFalse.distance = search rules in
    subst (λ z. Acts (given_of c.args.on.now) c.args.code.now c.args.next (JumpOnFalse z) c.args.self.now c.jump_on-in-JumpOnFalse.new.self c.jump_on-in-JumpOnFalse.result) (to_z-of_z w32 c.in-JumpOnFalse.distance fits)
    (c.jump_on-in-JumpOnFalse.ensures (given_of c.args.on.now) c.args.code.now))
