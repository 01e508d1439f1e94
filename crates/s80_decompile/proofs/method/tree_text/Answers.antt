use Rattle.s80_tree.specs.Tree.{method_of}
use Rattle.s80_decompile.proofs.Printing.{text_has_tree}
use Rattle.s80_decompile.proofs.method.tree_text.Goals as goal

pub returns-clause-read : goal.returns-clause-read
returns-clause-read c = λ h. text_has_tree c.spelled.result (method_of c.args.tree.now) c.spelled.ensures (c.a_spellable_tree_has_a_text.ensures (method_of c.args.tree.now) h)

pub returns-clause-again : goal.returns-clause-again
returns-clause-again c = λ text h. returns-clause-read c (c.a_tree_of_a_text_is_spellable.ensures text (method_of c.args.tree.now) h)
