use Rattle.std.proofs.Common.{sym, ◌∙◌}
use Rattle.std.proofs.lemmas.Result.{err_from_is_err_and}
use Rattle.std.proofs.lemmas.List.{take_rest}
use Rattle.s80_change.proofs.Lines.{no_chunk, line_there, line_unended, line_absent}
use Rattle.s80_change.proofs.front.first_line.Goals as goal

pub returns-in_err-text : goal.returns-in_err-text
returns-in_err-text c =
    let p = err_from_is_err_and c.from_residual.result c.from_residual.ensures.1 in
    rw (p.1, p.2) (no_chunk c.args.end.now c.args.bytes.now c.in_err-text.field-0.0 c.requires c.in_err-text.ensures)

pub returns-then-starts_with : goal.returns-then-starts_with
returns-then-starts_with c =
    line_there c.args.end.now c.args.bytes.now c.in_ok-text.text _ c.in_ok-text.length c.in_ok-text.ensures
    (take_rest c.args.bytes.now c.in_ok-text.length) (sym c.starts_with.ensures.value ∙ c.if-starts_with.true)

pub returns-then-starts_with-2 : goal.returns-then-starts_with-2
returns-then-starts_with-2 c =
    line_unended c.args.end.now c.args.bytes.now c.in_ok-text.text _ c.in_ok-text.length c.in_ok-text.ensures
    (take_rest c.args.bytes.now c.in_ok-text.length) c.requires
    (sym c.starts_with.ensures.value ∙ c.if-starts_with.false) (sym c.starts_with-else-starts_with.ensures.value ∙ c.if-starts_with-2.true)

pub returns : goal.returns
returns c =
    line_absent c.args.end.now c.args.bytes.now c.in_ok-text.text _ c.in_ok-text.length c.in_ok-text.ensures
    (take_rest c.args.bytes.now c.in_ok-text.length) c.requires
    (sym c.starts_with.ensures.value ∙ c.if-starts_with.false) (sym c.starts_with-else-starts_with.ensures.value ∙ c.if-starts_with-2.false)
