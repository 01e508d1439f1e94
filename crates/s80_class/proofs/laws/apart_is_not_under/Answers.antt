use Rattle.s80_class.proofs.lemmas.Lines.{apart_passed as law}
use Rattle.s80_class.proofs.laws.apart_is_not_under.Goals as goal

pub returns : goal.returns
returns c = λ classes name other differs below. law classes name other differs below
