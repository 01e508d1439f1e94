use Rattle.std.proofs.lemmas.Result.{err_from_is_err_and}
use Rattle.s80_image.specs.Methods.{methods_of}
use Rattle.s80_image.proofs.Wholes.{methods_fail, methods_then}
use Rattle.s80_image.proofs.decode.methods.Goals as goal

pub returns-in_err-count : goal.returns-in_err-count
returns-in_err-count c =
    let p = err_from_is_err_and c.from_residual.result c.from_residual.ensures.1 in
    rw (p.1, p.2) (methods_fail c.args.class.now c.args.bytes.now c.in_err-count.field-0.0 c.in_err-count.ensures)

pub returns : goal.returns
returns c = methods_then (λ x. (methods_of x.0.items, x.1.now)) c.methods_from.result c.args.class.now c.args.bytes.now (c.in_ok-count.count, c.in_ok-count.rest.now) c.in_ok-count.ensures c.methods_from.ensures
