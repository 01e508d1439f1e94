use Rattle.s80_verify.proofs.lemmas.LawLemmas.{no_fault}
use Rattle.s80_verify.proofs.laws.depths_verify.Goals as goal

pub returns : goal.returns
returns c = λ code h. no_fault code h
