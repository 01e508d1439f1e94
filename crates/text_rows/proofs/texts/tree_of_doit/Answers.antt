use Rattle.std.proofs.Common.{subst, sym}
use Rattle.s80_scope.specs.Names.{AreInOrder, uses_of}
use Rattle.s80_tree.specs.Tree.{doit_of}
use Rattle.text_rows.proofs.texts.tree_of_doit.Goals as goal

pub returns : goal.returns
returns c = subst (λ m. AreInOrder (uses_of m)) (sym c.doit_method.ensures) (c.places_of_uses_rise.ensures.doit _ (doit_of c.in_ok-tree.tree) c.in_ok-tree.ensures.tree)
