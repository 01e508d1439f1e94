use Rattle.std.proofs.Common.{ap, ◌∙◌, refl}
use Rattle.s80_form.specs.Definition.{split_names}
use Rattle.s80_form.proofs.Reading.{definition_is}
use Rattle.s80_form.proofs.read.definition.Goals as goal

pub returns : goal.returns
returns c =
    definition_is _ c.args.superclass.now c.args.kind c.args.bytes.now c.after.result.now c.word.result.0.now c.word.result.1.now
    c.in_ok-inst_vars.inst_vars c.in_ok-class_vars.class_vars c.in_ok-pools.pools c.in_ok-category.category c.in_ok-inst_vars.rest.now c.in_ok-class_vars.rest.now c.in_ok-pools.rest.now c.in_ok-category.field-0-1.now
    c.after.ensures c.word.ensures.word c.word.ensures.rest c.in_ok-inst_vars.ensures c.in_ok-class_vars.ensures c.in_ok-pools.ensures c.in_ok-category.ensures
    c.in_ok-from_bytes-2.ensures refl c.in_ok-from_bytes.ensures
    (c.in_ok-split_names.ensures ∙ ap split_names c.bytes.ensures) (c.in_ok-split_names-2.ensures ∙ ap split_names c.bytes-2.ensures) (c.in_ok-split_names-3.ensures ∙ ap split_names c.bytes-3.ensures)
    refl
