use Rattle.s80_verify.proofs.lemmas.LawLemmas.{no_fault}
use Rattle.s80_verify.proofs.verified.verify.Goals as goal

pub returns-clause-verified : goal.returns-clause-verified
returns-clause-verified c = no_fault c.args.code c.in_ok-check.ensures.depths
