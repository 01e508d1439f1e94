use Rattle.std.proofs.Common.{true, false, ap, sym, ◌∙◌}
use Rattle.s80_core.specs.Core.{cores_of, sends_of}
use Rattle.s80_compile.specs.Compiles.{any_to_super, sends_to_super}
use Rattle.s80_compile.proofs.OpenCore.{cores_left, cores_open, sends_open}
use Rattle.s80_compile.proofs.Supers.{messages_left, trees_next, trees_done, messages_next, messages_done}
use Rattle.s80_compile.proofs.owner.+owner.Goals as goal

pub any_to_super-loop-tree-init : goal.any_to_super-loop-tree-init
any_to_super-loop-tree-init t c = ap (λ xs. any_to_super (cores_left xs 0)) c.deref-tree-items.ensures.value ∙ ap any_to_super (sym (cores_open c.args.trees.now))

pub any_to_super-returns-then-goes_to_super : goal.any_to_super-returns-then-goes_to_super
any_to_super-returns-then-goes_to_super t c =
    trees_next (any_to_super (cores_of c.args.trees.now)) true c.deref-tree-items.result.now c.loop-tree.tree-index c.tree-item.result
    c.loop-tree.invariant c.loop-tree-test.true c.tree-item.is (sym c.if-goes_to_super.true ∙ c.goes_to_super.ensures)

pub any_to_super-loop-tree-preserved : goal.any_to_super-loop-tree-preserved
any_to_super-loop-tree-preserved t c =
    trees_next (any_to_super (cores_of c.args.trees.now)) false c.deref-tree-items.result.now c.loop-tree.tree-index c.tree-item.result
    c.loop-tree.invariant c.loop-tree-test.true c.tree-item.is (sym c.if-goes_to_super.false ∙ c.goes_to_super.ensures)

pub any_to_super-returns : goal.any_to_super-returns
any_to_super-returns t c = trees_done (any_to_super (cores_of c.args.trees.now)) c.deref-tree-items.result.now c.loop-tree.tree-index c.loop-tree.invariant c.loop-tree-test.false

pub sends_to_super-loop-message-init : goal.sends_to_super-loop-message-init
sends_to_super-loop-message-init t c = ap (λ xs. sends_to_super (messages_left xs 0)) c.deref-message-items.ensures.value ∙ ap sends_to_super (sym (sends_open c.args.messages.now))

pub sends_to_super-returns-then-any_to_super : goal.sends_to_super-returns-then-any_to_super
sends_to_super-returns-then-any_to_super t c =
    messages_next (sends_to_super (sends_of c.args.messages.now)) true c.deref-message-items.result.now c.loop-message.message-index c.message-item.result
    c.loop-message.invariant c.loop-message-test.true c.message-item.is (sym c.if-any_to_super.true ∙ c.any_to_super.ensures)

pub sends_to_super-loop-message-preserved : goal.sends_to_super-loop-message-preserved
sends_to_super-loop-message-preserved t c =
    messages_next (sends_to_super (sends_of c.args.messages.now)) false c.deref-message-items.result.now c.loop-message.message-index c.message-item.result
    c.loop-message.invariant c.loop-message-test.true c.message-item.is (sym c.if-any_to_super.false ∙ c.any_to_super.ensures)

pub sends_to_super-returns : goal.sends_to_super-returns
sends_to_super-returns t c = messages_done (sends_to_super (sends_of c.args.messages.now)) c.deref-message-items.result.now c.loop-message.message-index c.loop-message.invariant c.loop-message-test.false
