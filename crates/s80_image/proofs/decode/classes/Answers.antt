use Rattle.std.proofs.lemmas.Result.{err_from_is_err_and}
use Rattle.s80_image.specs.Classes.{classes_of}
use Rattle.s80_image.proofs.Wholes.{classes_fail, classes_then}
use Rattle.s80_image.proofs.decode.classes.Goals as goal

pub returns-in_err-count : goal.returns-in_err-count
returns-in_err-count c =
    let p = err_from_is_err_and c.from_residual.result c.from_residual.ensures.1 in
    rw (p.1, p.2) (classes_fail c.args.bytes.now c.in_err-count.field-0.0 c.in_err-count.ensures)

pub returns : goal.returns
returns c = classes_then (λ x. (classes_of x.0.items, x.1.now)) c.classes_from.result c.args.bytes.now (c.in_ok-count.count, c.in_ok-count.rest.now) c.in_ok-count.ensures c.classes_from.ensures
