-- The receiver's variables that a core tree names, below a number.
use Rattle.std.proofs.Common.{ℕ, ◌<◌}
use Rattle.s80_core.specs.Core.{VariableTree, instance, LeafTree, variable, CoreTree, CoreTrees, SendTrees, leaf, assign, value, send, cascade, real_block, two_arms, one_arm, shortcut, repeat, nothing, before, answer, answer_fixed, leave, no_cores, cores, no_sends, sends}

abbrev pub IsBelow : ℕ → VariableTree → Type 0
IsBelow v (instance place) = place < v
IsBelow v _ = Unit {0}

abbrev pub LeafIsBelow : ℕ → LeafTree → Type 0
LeafIsBelow v (variable x) = IsBelow v x
LeafIsBelow v _ = Unit {0}

abbrev mutual
  pub AreBelow : ℕ → CoreTree → Type 0
  AreBelow v (leaf l) = LeafIsBelow v l
  AreBelow v (assign x e) = IsBelow v x × AreBelow v e
  AreBelow v (value e) = AreBelow v e
  AreBelow v (send r to_super s es) = AreBelow v r × AllBelow v es
  AreBelow v (cascade r to_super ms) = AreBelow v r × SendsBelow v ms
  AreBelow v (real_block first n e) = AreBelow v e
  AreBelow v (two_arms on c a b) = AreBelow v c × (AreBelow v a × AreBelow v b)
  AreBelow v (one_arm on c a) = AreBelow v c × AreBelow v a
  AreBelow v (shortcut on c a) = AreBelow v c × AreBelow v a
  AreBelow v (repeat on c e) = AreBelow v c × AreBelow v e
  AreBelow v nothing = Unit {0}
  AreBelow v (before a b) = AreBelow v a × AreBelow v b
  AreBelow v (answer e) = AreBelow v e
  AreBelow v (answer_fixed n) = Unit {0}
  AreBelow v (leave e) = AreBelow v e

  pub AllBelow : ℕ → CoreTrees → Type 0
  AllBelow v no_cores = Unit {0}
  AllBelow v (cores c cs) = AreBelow v c × AllBelow v cs

  pub SendsBelow : ℕ → SendTrees → Type 0
  SendsBelow v no_sends = Unit {0}
  SendsBelow v (sends s es ms) = AllBelow v es × SendsBelow v ms
