use Rattle.s80_syntax.proofs.UniqueTexts.{one_method}
use Rattle.s80_syntax.proofs.grammar.one_method_tree.Goals as goal

pub returns : goal.returns
returns c = one_method
