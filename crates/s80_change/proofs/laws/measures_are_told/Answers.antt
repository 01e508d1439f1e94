use Rattle.s80_change.proofs.Told.{method_told, doit_told, refusal_exact}
use Rattle.s80_change.proofs.laws.measures_are_told.Goals as goal

pub returns-clause-methods : goal.returns-clause-methods
returns-clause-methods c = method_told

pub returns-clause-doits : goal.returns-clause-doits
returns-clause-doits c = doit_told

pub returns-clause-exact : goal.returns-clause-exact
returns-clause-exact c = refusal_exact
