use Rattle.s80_decompile.proofs.ReadMethods.{has_tree}
use Rattle.s80_decompile.proofs.laws.a_spellable_tree_has_a_text.Goals as goal

pub returns : goal.returns
returns c = has_tree
