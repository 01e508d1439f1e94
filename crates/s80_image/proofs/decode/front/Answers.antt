use Rattle.std.proofs.lemmas.Result.{err_from_is_err_and}
use Rattle.s80_image.specs.Image.{view_of}
use Rattle.s80_image.proofs.Wholes.{signature_fails, image_then}
use Rattle.s80_image.proofs.decode.front.Goals as goal

pub returns-in_err-rest : goal.returns-in_err-rest
returns-in_err-rest c =
    let p = err_from_is_err_and c.from_residual.result c.from_residual.ensures.1 in
    rw (p.1, p.2) (signature_fails c.args.bytes.now c.in_err-rest.field-0.0 c.in_err-rest.ensures)

pub returns : goal.returns
returns c = image_then (λ x. (view_of x.0, x.1.now)) c.contents.result c.args.bytes.now c.in_ok-rest.rest.now c.in_ok-rest.ensures c.contents.ensures
