use Rattle.s80_xref.proofs.Leading.{code_sends}
use Rattle.s80_xref.proofs.Naming.{code_names}
use Rattle.s80_xref.proofs.laws.code_names_what_its_tree_does.Goals as goal

pub returns-clause-sends : goal.returns-clause-sends
returns-clause-sends c = λ m shape class side code is. code_sends m shape class side code is

pub returns-clause-outers : goal.returns-clause-outers
returns-clause-outers c = λ m shape class side code is name. code_names m shape class side code is name
