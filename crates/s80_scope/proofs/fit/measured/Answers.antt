use Rattle.s80_tree.specs.Tree.{method_of}
use Rattle.s80_scope.proofs.Wholes.{measured_is}
use Rattle.s80_scope.proofs.fit.measured.Goals as goal

pub returns : goal.returns
returns c = measured_is (method_of c.args.tree.now) _ _ _ _ c.in_ok-literals.ensures c.capped.ensures c.stack.ensures
