use Rattle.std.proofs.lemmas.Result.{err_from_is_err_and}
use Rattle.std.proofs.lemmas.List.{take_rest}
use Rattle.s80_change.proofs.FirstFramings.{head_fails, source_fails, section_there}
use Rattle.s80_change.proofs.front.first_section.Goals as goal

pub returns-in_err-head : goal.returns-in_err-head
returns-in_err-head c =
    let p = err_from_is_err_and c.from_residual.result c.from_residual.ensures.1 in
    rw (p.1, p.2) (head_fails c.args.bytes.now c.in_err-head.field-0.0 c.in_err-head.ensures)

pub returns-in_err-source : goal.returns-in_err-source
returns-in_err-source c =
    let p = err_from_is_err_and c.from_residual-in_err-source.result c.from_residual-in_err-source.ensures.1 in
    rw (p.1, p.2)
    (source_fails c.args.bytes.now c.in_ok-head.head _ c.in_ok-head.head_length c.in_err-source.field-0.0 c.in_ok-head.ensures
    (take_rest c.args.bytes.now c.in_ok-head.head_length) c.in_err-source.ensures)

pub returns : goal.returns
returns c =
    section_there c.args.bytes.now c.in_ok-head.head _ c.in_ok-source.source c.in_ok-head.head_length c.in_ok-source.source_length c.in_ok-head.ensures
    (take_rest c.args.bytes.now c.in_ok-head.head_length) c.in_ok-source.ensures
