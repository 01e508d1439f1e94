use Rattle.std.proofs.Common.{◌∙◌, ap}
use Rattle.s80_tree.specs.Tree.{method_of}
use Rattle.s80_scope.specs.FitWeight.{method_leaves}
use Rattle.s80_scope.proofs.Wholes.{method_count}
use Rattle.s80_scope.proofs.fit.walk.method.Goals as goal

pub returns : goal.returns
returns c =
    method_count (method_of c.args.tree.now) _ _ _ _ _ _ _ _ _ c.deref.result.now c.deref-2.result.now c.deref.ensures.value c.deref-2.ensures.value c.count-2.ensures c.new-entries.ensures c.in_ok-counts.ensures.entries
    (c.method_leaves-leaves.ensures ∙ ap method_leaves c.bytes.ensures) c.in_ok-counts.ensures.counts c.count.ensures c.count-3.ensures c.declaring-declared.ensures c.declaring.ensures
