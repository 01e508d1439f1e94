use Rattle.std.proofs.Common.{arith, rules, refl}
use Rattle.s80_form.proofs.Reading.{names_more, names_all}
use Rattle.s80_form.proofs.read.are_names.Goals as goal

pub loop-i-preserved : goal.loop-i-preserved
loop-i-preserved c = names_more c.args.names.now c.loop-i.i c.at.result.now c.loop-i.invariant c.at.ensures (search rules)

pub returns : goal.returns
returns c = (λ _. names_all c.args.names.now c.loop-i.i (omega arith) c.loop-i.invariant, λ _. refl)
