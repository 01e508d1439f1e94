use Rattle.std.proofs.Common.{◌∙◌, ◌++◌, sym, ap}
use Rattle.std.specs.List.{flat_map}
use Rattle.s80_fileout.specs.Order.{class_made, made_by, methods_in}
use Rattle.s80_fileout.proofs.FiledOn.{filed_on_is}
use Rattle.s80_fileout.proofs.condensed.filed_on.Goals as goal

pub returns : goal.returns
returns c = λ state is.
    let name = c.args.class_name.now in
    let methods = flat_map made_by (methods_in state name) in
    c.in_ok-add_methods_in.ensures state is ∙ ap (λ l. l ++ methods) (c.in_ok-add_class.ensures state is ∙ ap (λ l. l ++ class_made state name) c.empty-changes.ensures)
    ∙ sym (filed_on_is c.args.system.now state is name)
