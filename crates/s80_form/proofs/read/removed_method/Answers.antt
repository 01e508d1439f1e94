use Rattle.std.proofs.Common.{◌∙◌, refl}
use Rattle.s80_form.proofs.Reading.{removal_found}
use Rattle.s80_form.proofs.read.removed_method.Goals as goal

pub returns : goal.returns
returns c =
    removal_found c.args.name.now c.args.rest.now c.in_ok-from_bytes.field-0 c.in_ok-from_bytes-2.field-0 c.args.side _
    c.in_ok-from_bytes.ensures (c.in_ok-from_bytes-2.ensures ∙ c.after.ensures) refl
