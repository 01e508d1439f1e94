use Rattle.std.specs.Prelude.{option_copied}
use Rattle.std.proofs.lemmas.Result.{err_from_is_err_and}
use Rattle.s80_image.proofs.Wholes.{method_fails, method_passes, method_stops}
use Rattle.s80_image.proofs.decode.verified_method.Goals as goal

pub returns-in_err-method : goal.returns-in_err-method
returns-in_err-method c =
    let p = err_from_is_err_and c.from_residual.result c.from_residual.ensures.1 in
    rw (p.1, p.2) (method_fails c.args.class.now (option_copied c.args.last) c.args.bytes.now c.in_err-method.field-0.0 c.in_err-method.ensures)

pub returns-in-Ok : goal.returns-in-Ok
returns-in-Ok c = method_passes c.args.class.now (option_copied c.args.last) c.args.bytes.now c.in_ok-method.method.heading c.in_ok-method.method.code c.in-Ok.code c.in_ok-method.rest.now c.in_ok-method.ensures c.in-Ok.ensures.same c.in-Ok.ensures.verified

pub returns-in-Err : goal.returns-in-Err
returns-in-Err c = method_stops c.args.class.now (option_copied c.args.last) c.args.bytes.now c.in_ok-method.method.heading c.in_ok-method.method.code c.in_ok-method.rest.now c.unverified.result c.in-Err.field-0.kind c.in-Err.field-0.place c.in_ok-method.ensures c.in-Err.ensures.fault c.unverified.ensures
