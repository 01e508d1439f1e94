use Rattle.s80_compile.proofs.SentTrees.{method_sent, doit_sent}
use Rattle.s80_compile.proofs.agreement.trees_are_well_sent.Goals as goal

pub returns-clause-method : goal.returns-clause-method
returns-clause-method c = method_sent

pub returns-clause-doit : goal.returns-clause-doit
returns-clause-doit c = doit_sent
