use Rattle.s80_syntax.proofs.Heads.{optional_some, optional_none}
use Rattle.s80_syntax.proofs.head.optional_temporaries.Goals as goal

pub returns-in-Some : goal.returns-in-Some
returns-in-Some c = optional_some _ _ _ _ c.in-Some.ensures c.temporaries.ensures

pub returns-in-None : goal.returns-in-None
returns-in-None c = optional_none _ _ _ c.in-None.ensures c.empty.ensures c.requires.slices
