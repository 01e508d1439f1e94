use Rattle.s80_syntax.proofs.UniqueTexts.{one_doit}
use Rattle.s80_syntax.proofs.grammar.one_doit_tree.Goals as goal

pub returns : goal.returns
returns c = one_doit
