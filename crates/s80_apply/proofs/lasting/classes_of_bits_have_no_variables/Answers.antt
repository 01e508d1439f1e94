use Rattle.s80_apply.proofs.LastingWithin.{no_bits}
use Rattle.s80_apply.proofs.lasting.classes_of_bits_have_no_variables.Goals as goal

pub returns : goal.returns
returns c = no_bits
