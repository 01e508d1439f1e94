use Rattle.std.proofs.Common.{[], ◌∙◌, refl}
use Rattle.s80_base.specs.declared.names.Side.TheVariants.{Instance}
use Rattle.s80_form.proofs.Reading.{class_removal_found}
use Rattle.s80_form.proofs.read.removed_class.Goals as goal

pub returns : goal.returns
returns c = class_removal_found [] c.args.rest.now c.in_ok-from_bytes.field-0 Instance _ (c.in_ok-from_bytes.ensures ∙ c.after.ensures) refl
