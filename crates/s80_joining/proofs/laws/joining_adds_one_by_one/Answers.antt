use Rattle.s80_joining.proofs.Adding.{list_joined, trouble_joined}
use Rattle.s80_joining.proofs.laws.joining_adds_one_by_one.Goals as goal

pub returns-clause-list : goal.returns-clause-list
returns-clause-list c = list_joined

pub returns-clause-trouble : goal.returns-clause-trouble
returns-clause-trouble c = trouble_joined
