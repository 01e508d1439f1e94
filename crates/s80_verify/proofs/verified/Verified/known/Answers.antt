use Rattle.s80_verify.proofs.lemmas.LawLemmas.{no_fault}
use Rattle.s80_verify.proofs.verified.Verified.known.Goals as goal

pub returns-clause-verified : goal.returns-clause-verified
returns-clause-verified c = no_fault c.args.code c.requires
