use Rattle.s80_verify.proofs.lemmas.LawLemmas.{one_there}
use Rattle.s80_verify.proofs.laws.one_depth.Goals as goal

pub returns : goal.returns
returns c = λ code h at stack other depth another reached again. one_there code h at stack other depth another reached again
