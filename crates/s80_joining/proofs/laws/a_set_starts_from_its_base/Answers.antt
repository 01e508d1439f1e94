use Rattle.s80_joining.proofs.SetStarts.{starts_built, starts_same}
use Rattle.s80_joining.proofs.laws.a_set_starts_from_its_base.Goals as goal

pub returns-clause-built : goal.returns-clause-built
returns-clause-built c = starts_built

pub returns-clause-state : goal.returns-clause-state
returns-clause-state c = starts_same
