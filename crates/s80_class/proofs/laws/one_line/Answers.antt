use Rattle.s80_class.proofs.lemmas.Lines.{one_line as law}
use Rattle.s80_class.proofs.laws.one_line.Goals as goal

pub returns : goal.returns
returns c = λ classes name es others a b. law classes name es others a b
