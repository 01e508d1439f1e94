use Rattle.s80_doit.proofs.Suiting.{method_suits}
use Rattle.s80_doit.proofs.suits.method_code_suits.Goals as goal

pub returns : goal.returns
returns c = method_suits c.shapes_have_as_many_variables.ensures.instance c.shapes_have_as_many_variables.ensures.class
