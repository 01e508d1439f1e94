use Rattle.s80_meaning.proofs.RenamedOutcomes.{by_name}
use Rattle.s80_meaning.proofs.laws.answers_are_by_name.Goals as goal

pub returns : goal.returns
returns c = λ t u methods others meant budget one. by_name t u methods others one meant budget
