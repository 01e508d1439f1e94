use Rattle.std.proofs.Common.{arith, rules, refl}
use Rattle.s80_form.proofs.Reading.{brief_more, brief_all}
use Rattle.s80_form.proofs.name.are_brief.Goals as goal

pub loop-i-preserved : goal.loop-i-preserved
loop-i-preserved c = brief_more c.args.names.now c.loop-i.i c.at.result.now c.loop-i.invariant c.at.ensures (c.is_brief.ensures.0 (search rules))

pub returns : goal.returns
returns c = (λ _. brief_all c.args.names.now c.loop-i.i (omega arith) c.loop-i.invariant, λ _. refl)
