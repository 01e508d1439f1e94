use Rattle.s80_doit.proofs.Suiting.{doit_suits}
use Rattle.s80_doit.proofs.suits.doit_code_suits.Goals as goal

pub returns-clause-suits : goal.returns-clause-suits
returns-clause-suits c = doit_suits

pub returns-clause-arguments : goal.returns-clause-arguments
returns-clause-arguments c = λ tree code is. is.arguments

pub returns-clause-primitive : goal.returns-clause-primitive
returns-clause-primitive c = λ tree code is. is.primitive
