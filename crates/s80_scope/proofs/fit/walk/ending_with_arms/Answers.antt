use Rattle.s80_scope.proofs.Steps.{inlined_arms}
use Rattle.s80_scope.proofs.fit.walk.ending_with_arms.Goals as goal

pub returns-clause-arms : goal.returns-clause-arms
returns-clause-arms c = inlined_arms c.args.expr.now c.ending_of.result c.ending_of.ensures
