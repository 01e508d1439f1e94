use Rattle.s80_syntax.proofs.lemmas.OneReading.{one_method_of, one_doit_of}
use Rattle.s80_syntax.proofs.laws.one_tree.Goals as goal

pub returns-clause-method : goal.returns-clause-method
returns-clause-method c = one_method_of

pub returns-clause-doit : goal.returns-clause-doit
returns-clause-doit c = one_doit_of
