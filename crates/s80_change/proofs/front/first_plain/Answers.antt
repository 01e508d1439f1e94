use Rattle.std.proofs.lemmas.Result.{err_from_is_err_and}
use Rattle.s80_change.proofs.FirstFramings.{plain_fails, plain_there}
use Rattle.s80_change.proofs.front.first_plain.Goals as goal

pub returns-in_err-text : goal.returns-in_err-text
returns-in_err-text c =
    let p = err_from_is_err_and c.from_residual.result c.from_residual.ensures.1 in
    rw (p.1, p.2) (plain_fails c.args.bytes.now c.in_err-text.field-0.0 c.requires c.in_err-text.ensures)

pub returns : goal.returns
returns c = plain_there c.args.bytes.now c.in_ok-text.text c.in_ok-text.length c.requires c.in_ok-text.ensures
