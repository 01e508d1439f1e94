use Rattle.std.proofs.Common.{refl}
use Rattle.s80_meaning.proofs.laws.worked_trees.Goals as goal

pub returns-clause-sum : goal.returns-clause-sum
returns-clause-sum c = λ t methods budget. refl

pub returns-clause-endless : goal.returns-clause-endless
returns-clause-endless c = λ t methods. refl

pub returns-clause-twice : goal.returns-clause-twice
returns-clause-twice c = λ t methods. refl
