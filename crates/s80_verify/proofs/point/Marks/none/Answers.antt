use Rattle.s80_verify.proofs.FoundLemmas.{no_marks}
use Rattle.s80_verify.proofs.point.Marks.none.Goals as goal

pub returns-clause-none : goal.returns-clause-none
returns-clause-none c = λ stack at. no_marks stack at
