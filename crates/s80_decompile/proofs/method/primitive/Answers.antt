use Rattle.std.proofs.Common.{◌∙◌}
use Rattle.s80_decompile.proofs.Printing.{primitive_printed}
use Rattle.s80_decompile.proofs.method.primitive.Goals as goal

pub returns : goal.returns
returns c =
    primitive_printed c.token-4.result c.args.printer.now c.token.new.self c.token-2.new.self c.token-3.new.self c.token-4.new.self c.args.number c.as_bytes.result.now c.if-number-eq0.false (c.as_bytes.ensures.value ∙ c.in_ok-format.ensures.ok)
    c.in_ok-token.ensures c.in_ok-token-2.ensures c.in_ok-token-3.ensures c.token-4.ensures
