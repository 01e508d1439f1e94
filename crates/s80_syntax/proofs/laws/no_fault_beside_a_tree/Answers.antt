use Rattle.s80_syntax.proofs.lemmas.OneReading.{method_only_memory, doit_only_memory}
use Rattle.s80_syntax.proofs.laws.no_fault_beside_a_tree.Goals as goal

pub returns-clause-method : goal.returns-clause-method
returns-clause-method c = method_only_memory

pub returns-clause-doit : goal.returns-clause-doit
returns-clause-doit c = doit_only_memory
