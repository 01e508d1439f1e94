use Rattle.std.proofs.Common.{◌≤◌, rules}
use Rattle.s80_lex.proofs.Values.{lawful_test}
use Rattle.s80_lex.proofs.number.is_lawful.Goals as goal

pub returns-then-contains : goal.returns-then-contains
returns-then-contains c =
    let from : 2 ≤ c.radix_of-radix.result = search rules in
    let to : c.radix_of-radix.result ≤ 36 = search rules in
    lawful_test c.radix_of-radix.result c.are_below.result c.args.bytes.now c.digits_of.result.now from to c.radix_of-radix.ensures c.digits_of.ensures c.are_below.ensures
