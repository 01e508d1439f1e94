use Rattle.std.proofs.Common.{arith, rules, refl}
use Rattle.s80_form.proofs.Reading.{read_end_at, read_all}
use Rattle.s80_form.proofs.text_parts.string.Goals as goal

pub returns-in-empty : goal.returns-in-empty
returns-in-empty c = read_all c.args.bytes.now c.loop-rest.text c.loop-rest.rest.now c.loop-rest.invariant (omega (arith, c.in-empty.len_below))

pub returns-then-not-begins_with_quote : goal.returns-then-not-begins_with_quote
returns-then-not-begins_with_quote c =
    let t = c.if-not-begins_with_quote.true in
    read_end_at c.args.bytes.now c.loop-rest.text c.loop-rest.rest.now _ c.begins_with_quote.result c.loop-rest.invariant
    (omega (arith, c.in-39.len_at_least)) (search rules) refl c.begins_with_quote.ensures t
