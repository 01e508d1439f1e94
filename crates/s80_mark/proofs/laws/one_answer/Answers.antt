use Rattle.s80_mark.proofs.OneAnswer.{one_answer}
use Rattle.s80_mark.proofs.laws.one_answer.Goals as goal

pub returns : goal.returns
returns c = one_answer
