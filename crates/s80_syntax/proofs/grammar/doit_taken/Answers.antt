use Rattle.s80_syntax.proofs.TakenTexts.{doit_taken}
use Rattle.s80_syntax.proofs.grammar.doit_taken.Goals as goal

pub returns : goal.returns
returns c = doit_taken
