use Rattle.s80_verify.proofs.lemmas.LawLemmas.{step_there}
use Rattle.s80_verify.proofs.laws.steps_are_reached.Goals as goal

pub returns : goal.returns
returns c = λ code at to stack other depth after reached leads. step_there code at to stack other depth after reached leads
