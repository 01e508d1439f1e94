use Rattle.std.proofs.Common.{sym, ◌∙◌}
use Rattle.s80_decompile.proofs.Printing.{temporaries_printed}
use Rattle.s80_decompile.proofs.method.temporaries.Goals as goal

pub returns : goal.returns
returns c =
    temporaries_printed c.token-2.result c.args.printer.now c.token.new.self c.names.new.printer c.token-2.new.self c.args.declared.now (sym c.is_empty.ensures ∙ c.if-is_empty.false)
    c.in_ok-token.ensures c.in_ok-names.ensures c.token-2.ensures
