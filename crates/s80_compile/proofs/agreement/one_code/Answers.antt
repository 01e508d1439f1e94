use Rattle.s80_core.specs.Elaborate.{elaborated}
use Rattle.s80_compile.proofs.SameCore.{equal}
use Rattle.s80_compile.proofs.agreement.one_code.Goals as goal

pub returns-clause-core : goal.returns-clause-core
returns-clause-core c = equal

pub returns-clause-method : goal.returns-clause-method
returns-clause-method c = λ m shape. equal m (elaborated m shape)
