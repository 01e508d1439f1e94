use Rattle.s80_decompile.proofs.WellFormed.{spellable}
use Rattle.s80_decompile.proofs.laws.a_tree_of_a_text_is_spellable.Goals as goal

pub returns : goal.returns
returns c = spellable
