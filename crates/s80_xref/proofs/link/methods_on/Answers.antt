use Rattle.std.proofs.Common.{◌∙◌, ap, sym, subst}
use Rattle.s80_dict.specs.Slots.{DictValue}
use Rattle.s80_dict.specs.Table.{MethodsValue, dict_at}
use Rattle.s80_apply.specs.Entries.{Entry}
use Rattle.s80_xref.specs.Links.{AreLinked}
use Rattle.s80_xref.proofs.Linking.{are_linked}
use Rattle.s80_xref.proofs.link.methods_on.Goals as goal

pub returns-in-Some : goal.returns-in-Some
returns-in-Some c = λ state is.
    let class = c.args.class_name.now in
    let dict = c.dict.ensures ∙ ap (λ (m : MethodsValue Entry). dict_at m c.in-Some.number c.args.side) c.methods.ensures.methods in
    subst (λ (d : DictValue Entry). AreLinked state class c.args.side d.methods) (sym dict)
    (are_linked c.code_names_what_its_tree_does.ensures.sends c.code_names_what_its_tree_does.ensures.outers c.one_tree.ensures.method c.args.system.now state c.in-Some.number class c.args.side is c.in-Some.ensures.named c.methods.ensures.codes)
