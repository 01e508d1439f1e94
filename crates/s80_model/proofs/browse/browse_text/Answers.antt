use Rattle.std.proofs.Common.{◌∙◌, sym, ap, subst}
use Rattle.s80_base.specs.declared.names.Side.TheVariants.{Instance, Class}
use Rattle.s80_class.specs.Table.{IsNumberOf}
use Rattle.s80_model.proofs.Telling.{dictionary_is, is_browsed, not_browsed, number_within}
use Rattle.s80_model.proofs.browse.browse_text.Goals as goal

pub returns-in_default : goal.returns-in_default
returns-in_default c = λ state of_state. not_browsed state c.args.system.now c.args.name.now of_state c.in_default.ensures

pub at-requires : goal.at-requires
at-requires c = (c.args.name.now, subst (λ t. IsNumberOf t.names c.in-Some.number c.args.name.now) (sym c.classes-classes.ensures.table) c.in-Some.ensures.named)

pub dict-requires : goal.dict-requires
dict-requires c = number_within c.args.system.now c.in-Some.number c.args.name.now c.methods-methods.result.now c.methods-methods.ensures.methods c.in-Some.ensures

pub dict-requires-2 : goal.dict-requires-2
dict-requires-2 c = number_within c.args.system.now c.in-Some.number c.args.name.now c.methods-methods.result.now c.methods-methods.ensures.methods c.in-Some.ensures

pub returns : goal.returns
returns c = λ state of_state.
    is_browsed c.classes-classes.result.now state c.in-Some.number c.args.name.now c.at.result.now c.in_ok-text.text c.add_category_lines.new.text c.add_category_lines-2.new.text
    (subst (λ t. IsNumberOf t.names c.in-Some.number c.args.name.now) (sym c.classes-classes.ensures.table) c.in-Some.ensures.named) c.at.ensures (ap (λ t. t.classes) c.classes-classes.ensures.table ∙ of_state.classes) c.in_ok-text.ensures
    (c.in_ok-add_category_lines.ensures (state.methods c.args.name.now Instance) (dictionary_is state c.args.system.now c.in-Some.number c.args.name.now Instance
    c.methods-methods.result.now c.dict.result.now of_state c.in-Some.ensures c.methods-methods.ensures.methods c.dict.ensures))
    (c.in_ok-add_category_lines-2.ensures (state.methods c.args.name.now Class) (dictionary_is state c.args.system.now c.in-Some.number c.args.name.now Class
    c.methods-methods.result.now c.dict-2.result.now of_state c.in-Some.ensures c.methods-methods.ensures.methods c.dict-2.ensures))
