use Rattle.std.proofs.Common.{rules}
use Rattle.std.proofs.lemmas.Result.{err_from_is_err_and}
use Rattle.s80_image.specs.Image.{view_of}
use Rattle.s80_image.proofs.Decoded.{whole_fails, rest_fails, whole_read}
use Rattle.s80_image.proofs.decode.whole.Goals as goal

pub returns-in_err-image : goal.returns-in_err-image
returns-in_err-image c =
    let p = err_from_is_err_and c.from_residual.result c.from_residual.ensures.1 in
    rw (p.1, p.2) (whole_fails c.in_err-image.field-0.0 c.args.bytes.now c.in_err-image.ensures)

pub returns-then-not-is_empty : goal.returns-then-not-is_empty
returns-then-not-is_empty c = rest_fails c.args.bytes.now (view_of c.in_ok-image.image) c.in_ok-image.rest.now (search rules) c.in_ok-image.ensures

pub returns : goal.returns
returns c = whole_read c.args.bytes.now (view_of c.in_ok-image.image) c.in_ok-image.rest.now (search rules) c.in_ok-image.ensures
