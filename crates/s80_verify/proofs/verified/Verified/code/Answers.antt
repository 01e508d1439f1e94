use Rattle.std.proofs.Common.{rules}
use Rattle.s80_verify.proofs.lemmas.LawLemmas.{no_fault}
use Rattle.s80_verify.proofs.verified.Verified.code.Goals as goal

pub returns-clause-depths : goal.returns-clause-depths
returns-clause-depths c = search rules

pub returns-clause-verified : goal.returns-clause-verified
returns-clause-verified c = no_fault _ (returns-clause-depths c)
