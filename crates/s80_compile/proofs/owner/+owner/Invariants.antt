use Rattle.std.proofs.Common.{◌≡◌}
use Rattle.s80_core.specs.Core.{cores_of, sends_of}
use Rattle.s80_compile.specs.Compiles.{any_to_super, sends_to_super}
use Rattle.s80_compile.proofs.OpenCore.{cores_left}
use Rattle.s80_compile.proofs.Supers.{messages_left}
use Rattle.s80_compile.proofs.owner.+owner.Given as goal

abbrev pub invariant-any_to_super-loop-tree : goal.invariant-any_to_super-loop-tree
invariant-any_to_super-loop-tree l = any_to_super (cores_left l.tree-items l.tree-index) ≡ any_to_super (cores_of l.trees)

abbrev pub invariant-sends_to_super-loop-message : goal.invariant-sends_to_super-loop-message
invariant-sends_to_super-loop-message l = sends_to_super (messages_left l.message-items l.message-index) ≡ sends_to_super (sends_of l.messages)
