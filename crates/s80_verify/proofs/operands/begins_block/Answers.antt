use Rattle.std.proofs.Common.{refl}
use Rattle.s80_verify.proofs.operands.begins_block.Goals as goal

pub returns-in-Some : goal.returns-in-Some
returns-in-Some c = (λ r. (_, _, c.in-Some.ensures.begins), λ x. refl)

pub returns-in-None : goal.returns-in-None
returns-in-None c = (λ r. cc, λ x. absurd (c.in-None.ensures x.0 x.1 x.2))
