use Rattle.std.proofs.Common.{refl}
use Rattle.s80_form.proofs.Reading.{classified_found}
use Rattle.s80_form.proofs.read.classified.Goals as goal

pub returns : goal.returns
returns c =
    classified_found c.args.name.now c.args.rest.now c.after.result.now c.word.result.0.now c.word.result.1.now c.after-2.result.now c.in_ok-category.category c.in_ok-category.field-0-1.now c.in_ok-from_bytes.field-0 c.in_ok-from_bytes-2.field-0 c.args.side _
    c.after.ensures c.word.ensures.word c.word.ensures.rest c.after-2.ensures c.in_ok-category.ensures c.in_ok-from_bytes.ensures c.in_ok-from_bytes-2.ensures refl
