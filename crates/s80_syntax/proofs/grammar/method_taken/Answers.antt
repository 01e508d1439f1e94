use Rattle.s80_syntax.proofs.TakenTexts.{method_taken}
use Rattle.s80_syntax.proofs.grammar.method_taken.Goals as goal

pub returns : goal.returns
returns c = method_taken
