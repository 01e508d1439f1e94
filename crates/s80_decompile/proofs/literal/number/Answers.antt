use Rattle.std.proofs.Common.{sym, ◌∙◌}
use Rattle.s80_decompile.proofs.Printing.{number_printed}
use Rattle.s80_decompile.proofs.literal.number.Goals as goal

pub returns : goal.returns
returns c = number_printed c.token-2.result c.args.printer.now c.sign.new.self c.token-2.new.self c.args.bytes.now (sym c.is_negative.ensures ∙ c.if-not-is_negative.false) c.in_ok-sign.ensures c.token-2.ensures
