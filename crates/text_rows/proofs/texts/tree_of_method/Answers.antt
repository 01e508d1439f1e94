use Rattle.s80_tree.specs.Tree.{method_of}
use Rattle.text_rows.proofs.texts.tree_of_method.Goals as goal

pub returns : goal.returns
returns c = c.places_of_uses_rise.ensures.method _ (method_of c.in_ok-tree.tree) c.in_ok-tree.ensures.tree
