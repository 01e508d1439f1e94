use Rattle.std.proofs.Common.{ap, ◌∙◌, refl}
use Rattle.s80_base.specs.declared.names.Side.TheVariants.{Class}
use Rattle.s80_form.specs.Definition.{split_names}
use Rattle.s80_form.proofs.Reading.{class_vars_found}
use Rattle.s80_form.proofs.read.class_vars.Goals as goal

pub returns : goal.returns
returns c =
    class_vars_found c.args.name.now c.args.rest.now c.after.result.now c.in_ok-names.names c.in_ok-names.field-0-1.now c.in_ok-from_bytes.field-0 c.in_ok-split_names.field-0 Class _
    c.after.ensures c.in_ok-names.ensures c.in_ok-from_bytes.ensures (c.in_ok-split_names.ensures ∙ ap split_names c.bytes.ensures) refl
