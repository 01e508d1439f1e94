use Rattle.std.proofs.Common.{◌∙◌, ap, min, ◌-◌, ◌^◌}
use Rattle.std.specs.Str.Parse.{digits_value}
use Rattle.s80_lex.proofs.Values.{value_whole}
use Rattle.s80_lex.proofs.number.whole_value.Goals as goal

pub returns : goal.returns
returns c =
    value_whole c.radix_of-radix.result c.digits_value.result c.min-exponent.result c.digits_value-2.result c.saturating_pow.result c.saturating_mul.result c.args.bytes.now
    c.requires c.radix_of-radix.ensures
    (c.digits_value.ensures ∙ ap (λ l. min (digits_value 10 l) (2 ^ 64 - 1)) c.behind.ensures)
    c.min-exponent.ensures
    (c.digits_value-2.ensures ∙ ap (λ l. min (digits_value c.radix_of-radix.result l) (2 ^ 64 - 1)) c.digits_of.ensures)
    c.saturating_pow.ensures c.saturating_mul.ensures
