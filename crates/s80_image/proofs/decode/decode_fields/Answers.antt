use Rattle.std.proofs.Common.{arith, rules}
use Rattle.s80_image.specs.Image.{view_of}
use Rattle.s80_image.proofs.Decoded.{decoded_fails, decoded_read, only_err, only_ok, whole_spelled}
use Rattle.s80_image.proofs.decode.decode_fields.Goals as goal

pub returns-in-Ok-clause-exact : goal.returns-in-Ok-clause-exact
returns-in-Ok-clause-exact c = decoded_read c.args.bytes.now (view_of c.in-Ok.image) c.in-Ok.ensures

pub returns-in-Ok-clause-found : goal.returns-in-Ok-clause-found
returns-in-Ok-clause-found c = whole_spelled c.args.bytes.now (view_of c.in-Ok.image) (λ i. omega (arith, c.type_inv.bytes i)) c.in-Ok.ensures.0

pub returns-in-Ok-clause-only : goal.returns-in-Ok-clause-only
returns-in-Ok-clause-only c = only_ok c.in-Ok.image c.args.bytes.now (returns-in-Ok-clause-exact c)

pub returns-in-Err-clause-exact : goal.returns-in-Err-clause-exact
returns-in-Err-clause-exact c = decoded_fails c.in-Err.fault c.placed.result c.args.bytes.now (search rules) c.in-Err.ensures

pub returns-in-Err-clause-only : goal.returns-in-Err-clause-only
returns-in-Err-clause-only c = only_err c.placed.result c.args.bytes.now (returns-in-Err-clause-exact c)
