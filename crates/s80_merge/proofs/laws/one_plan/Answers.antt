use Rattle.s80_merge.proofs.OnePlan.{one_plan}
use Rattle.s80_merge.proofs.laws.one_plan.Goals as goal

pub returns : goal.returns
returns c = one_plan
