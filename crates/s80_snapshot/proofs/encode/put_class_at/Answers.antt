use Rattle.std.proofs.Common.{◌≡◌, ◌∙◌, Some, sym, ap, subst}
use Rattle.std.specs.FinMap as finmap
use Rattle.std.proofs.lemmas.Result.{on_ok_weaker}
use Rattle.s80_base.specs.declared.names.Side.TheVariants.{Instance, Class}
use Rattle.s80_dict.specs.Dict.{Methods}
use Rattle.s80_dict.specs.Slots.{DictValue}
use Rattle.s80_dict.specs.Table.{MethodsValue, methods_at}
use Rattle.s80_class.specs.Classes.{Classes}
use Rattle.s80_class.specs.Table.{IsNumberOf, Table}
use Rattle.s80_apply.specs.Entries.{Entry}
use Rattle.s80_apply.specs.Seen.{AreSeen}
use Rattle.s80_snapshot.specs.Pictured.{coded_row}
use Rattle.s80_snapshot.proofs.Put.{class_is_put}
use Rattle.s80_snapshot.proofs.encode.put_class_at.Goals as goal

pub returns : goal.returns
returns c = λ state name row is named there.
    let system = c.args.system.now in
    let number = c.args.number in
    let at_number = subst (λ (t : Table). IsNumberOf t.names number name) (sym c.classes.ensures.table) named in
    let row_there : finmap.get c.classes.result.now.classes name ≡ Some row = ap (λ (t : Table). finmap.get t.classes name) c.classes.ensures.table ∙ ap (λ (cs : Classes). finmap.get cs name) is.classes ∙ there in
    let instance : c.dict.result.now.methods ≡ methods_at system.methods number Instance = ap (λ (d : DictValue Entry). d.methods) c.dict.ensures ∙ ap (λ (t : MethodsValue Entry). methods_at t number Instance) c.methods.ensures.methods in
    let class_side : c.dict-2.result.now.methods ≡ methods_at system.methods number Class = ap (λ (d : DictValue Entry). d.methods) c.dict-2.ensures ∙ ap (λ (t : MethodsValue Entry). methods_at t number Class) c.methods-2.ensures.methods in
    on_ok_weaker c.put_methods-2.result
    (λ last. class_is_put c.lists_are_spelled_member_by_member.ensures.class state name row c.dict.result.now.methods c.dict-2.result.now.methods c.args.out.now.items c.put_heading.new.out.items c.put_methods.new.out.items c.put_methods-2.new.out.items
    (subst (λ (m : Methods Entry). AreSeen coded_row m (state.methods name Instance)) (sym instance) (is.methods number name Instance named))
    (subst (λ (m : Methods Entry). AreSeen coded_row m (state.methods name Class)) (sym class_side) (is.methods number name Class named))
    (c.in_ok-put_heading.ensures name row at_number row_there) c.in_ok-put_methods.ensures last)
    c.put_methods-2.ensures
