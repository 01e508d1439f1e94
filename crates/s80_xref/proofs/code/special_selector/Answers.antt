use Rattle.std.proofs.Common.{◌∙◌, ap}
use Rattle.std.specs.Option.{option_map}
use Rattle.s80_xref.proofs.Selecting.{special_there, special_past}
use Rattle.s80_xref.proofs.code.special_selector.Goals as goal

pub returns-in_err-message : goal.returns-in_err-message
returns-in_err-message c =
    ap (option_map (λ word. word.now)) c.from_residual.ensures
    ∙ special_past c.special_messages.result.now c.from.result c.args.number c.from.ensures c.if-number-eq-BLOCK_COPY.false c.special_messages.ensures.count c.in_err-message.ensures.lookup.3

pub returns : goal.returns
returns c =
    special_there c.special_messages.result.now c.from.result c.args.number c.in_ok-message.message.now c.as_bytes.result.now c.special_messages.ensures.selectors
    c.from.ensures c.if-number-eq-BLOCK_COPY.false c.in_ok-message.ensures.lookup.3.0 c.in_ok-message.ensures.lookup.1 c.as_bytes.ensures.value
