use Rattle.s80_joining.proofs.OneOutcome.{one_outcome}
use Rattle.s80_joining.proofs.laws.merging_has_one_outcome.Goals as goal

pub returns : goal.returns
returns c = λ base ours items given. one_outcome c.one_ask.ensures.one c.one_plan.ensures base ours items given
