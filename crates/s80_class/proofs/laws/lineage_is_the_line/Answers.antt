use Rattle.s80_class.proofs.lemmas.Lines.{lineage_line as law}
use Rattle.s80_class.proofs.laws.lineage_is_the_line.Goals as goal

pub returns : goal.returns
returns c = λ classes name es line. law classes name es line
