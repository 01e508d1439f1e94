use Rattle.std.proofs.Common.{arith, rules}
use Rattle.s80_mark.proofs.read.read_mark.Goals as goal

pub returns-in-Some-clause-answer : goal.returns-in-Some-clause-answer
returns-in-Some-clause-answer g c = λ told. (search rules, (c.in_ok-mark.mark, grind arith, rw c.from.ensures c.in-Some.ensures))

pub returns-in-None-clause-answer : goal.returns-in-None-clause-answer
returns-in-None-clause-answer g c = λ told. (search rules, grind arith, c.in-None.ensures)
