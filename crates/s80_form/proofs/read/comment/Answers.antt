use Rattle.std.proofs.Common.{refl}
use Rattle.s80_base.specs.declared.names.Side.TheVariants.{Instance}
use Rattle.s80_form.proofs.Reading.{comment_found}
use Rattle.s80_form.proofs.read.comment.Goals as goal

pub returns : goal.returns
returns c =
    comment_found c.args.name.now c.args.rest.now c.after.result.now c.in_ok-text.text c.in_ok-text.field-0-1.now c.in_ok-class_name.class_name Instance _
    c.after.ensures c.in_ok-text.ensures c.in_ok-class_name.ensures refl
