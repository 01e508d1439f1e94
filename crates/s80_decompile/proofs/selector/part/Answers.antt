use Rattle.s80_decompile.proofs.Printing.{binary_printed, keyword_printed}
use Rattle.s80_decompile.proofs.selector.part.Goals as goal

pub returns-then-place-selector : goal.returns-then-place-selector
returns-then-place-selector c = keyword_printed c.token.result c.args.printer.now c.token.new.self c.args.selector.now c.colon-place.result c.colon-place.ensures.same c.if-place-selector.true c.token.ensures

pub returns-else-place-selector : goal.returns-else-place-selector
returns-else-place-selector c =
    binary_printed c.token-else-place-selector.result c.args.printer.now c.token-else-place-selector.new.self c.args.selector.now c.colon-place.result c.colon-place.ensures.same c.if-place-selector.false c.token-else-place-selector.ensures
