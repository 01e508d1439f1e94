use Rattle.std.proofs.Common.{◌∙◌, ◌+◌}
use Rattle.s80_base.specs.declared.names.Side.TheVariants.{Instance, Class}
use Rattle.s80_model.proofs.Telling.{dictionary_is, none_own, number_within, sum_of}
use Rattle.s80_model.proofs.told.own_methods_of.Goals as goal

pub returns-in_default : goal.returns-in_default
returns-in_default c = λ state of_state. none_own state c.args.system.now c.args.name.now of_state c.in_default.ensures

pub dict-requires : goal.dict-requires
dict-requires c = number_within c.args.system.now c.in-Some.number c.args.name.now c.methods-methods.result.now c.methods-methods.ensures.methods c.in-Some.ensures

pub dict-requires-2 : goal.dict-requires-2
dict-requires-2 c = number_within c.args.system.now c.in-Some.number c.args.name.now c.methods-methods.result.now c.methods-methods.ensures.methods c.in-Some.ensures

pub returns : goal.returns
returns c = λ state of_state.
    let instance = c.in_ok-count.ensures (state.methods c.args.name.now Instance) (dictionary_is state c.args.system.now c.in-Some.number c.args.name.now Instance
    c.methods-methods.result.now c.dict.result.now of_state c.in-Some.ensures c.methods-methods.ensures.methods c.dict.ensures) in
    let class = c.in_ok-more.ensures (state.methods c.args.name.now Class) (dictionary_is state c.args.system.now c.in-Some.number c.args.name.now Class
    c.methods-methods.result.now c.dict-2.result.now of_state c.in-Some.ensures c.methods-methods.ensures.methods c.dict-2.ensures) in
    sum_of c.checked_add.result c.in_ok-ok_or.field-0 c.in_ok-count.count c.in_ok-more.more c.checked_add.ensures c.in_ok-ok_or.ensures.ok_part ∙ (λ i. instance i + class i)
