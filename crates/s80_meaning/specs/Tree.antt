-- Core trees whose real blocks are numbered in the order of the text, and stand in a list beside the body.
use Rattle.std.specs.Prelude.{ℕ, suc, ◌+◌, List, [], ◌∷◌, ◌++◌, Bool, if◌then◌else◌}
use Rattle.std.specs.List.{list_any, position_or_len}
use Rattle.s80_base.specs.Literal.{LiteralTree}
use Rattle.s80_code.specs.Entries.{EntryTree, constant}
use Rattle.s80_compile.specs.Same.{same_entry}
use Rattle.s80_tree.specs.Tree.{MethodParts}
use Rattle.s80_scope.specs.declared.shape.Shape.{Shape}
use Rattle.s80_scope.specs.FitStack.{temporaries}
use Rattle.s80_core.specs.Core.{VariableTree, LeafTree, CoreTree, CoreTrees, SendTrees}
use Rattle.s80_core.specs.Core as core
use Rattle.s80_core.specs.Elaborate.{elaborated}
use Rattle.s80_core.specs.Measures.{entries}

mutual
  pub data Tree : Type 0 where
    leaf : LeafTree → Tree
    assign : VariableTree → Tree → Tree
    value : Tree → Tree
    send : Tree → Bool → List ℕ → Trees → Tree
    cascade : Tree → Bool → Sends → Tree
    -- the real block of this number in its method
    real : ℕ → Tree
    two_arms : Bool → Tree → Tree → Tree → Tree
    one_arm : Bool → Tree → Tree → Tree
    shortcut : Bool → Tree → Tree → Tree
    repeat : Bool → Tree → Tree → Tree
    nothing : Tree
    before : Tree → Tree → Tree
    answer : Tree → Tree
    answer_fixed : ℕ → Tree
    leave : Tree → Tree

  pub data Trees : Type 0 where
    no_trees : Trees
    trees : Tree → Trees → Trees

  pub data Sends : Type 0 where
    no_sends : Sends
    sends : List ℕ → Trees → Sends → Sends

-- how many there are
abbrev pub count : Trees → ℕ
count no_trees = 0
count (trees e es) = suc (count es)

-- a real block: its parameters are temporaries of its home, from the first on
pub record RealBlock : Type 0 where
  pub first : ℕ
  pub parameters : ℕ
  pub body : Tree

-- how many real blocks there are
abbrev mutual
  pub size : CoreTree → ℕ
  size (core.leaf l) = 0
  size (core.assign v e) = size e
  size (core.value e) = size e
  size (core.send r to_super s es) = size r + size_all es
  size (core.cascade r to_super ms) = size r + size_sends ms
  size (core.real_block first n e) = suc (size e)
  size (core.two_arms on c a b) = size c + (size a + size b)
  size (core.one_arm on c a) = size c + size a
  size (core.shortcut on c a) = size c + size a
  size (core.repeat on c e) = size c + size e
  size core.nothing = 0
  size (core.before a b) = size a + size b
  size (core.answer e) = size e
  size (core.answer_fixed n) = 0
  size (core.leave e) = size e

  pub size_all : CoreTrees → ℕ
  size_all core.no_cores = 0
  size_all (core.cores c cs) = size c + size_all cs

  pub size_sends : SendTrees → ℕ
  size_sends core.no_sends = 0
  size_sends (core.sends s es ms) = size_all es + size_sends ms

-- the tree with its real blocks numbered from k on
abbrev mutual
  pub numbered : ℕ → CoreTree → Tree
  numbered k (core.leaf l) = leaf l
  numbered k (core.assign v e) = assign v (numbered k e)
  numbered k (core.value e) = value (numbered k e)
  numbered k (core.send r to_super s es) = send (numbered k r) to_super s (numbered_all (k + size r) es)
  numbered k (core.cascade r to_super ms) = cascade (numbered k r) to_super (numbered_sends (k + size r) ms)
  numbered k (core.real_block first n e) = real k
  numbered k (core.two_arms on c a b) = two_arms on (numbered k c) (numbered (k + size c) a) (numbered (k + size c + size a) b)
  numbered k (core.one_arm on c a) = one_arm on (numbered k c) (numbered (k + size c) a)
  numbered k (core.shortcut on c a) = shortcut on (numbered k c) (numbered (k + size c) a)
  numbered k (core.repeat on c e) = repeat on (numbered k c) (numbered (k + size c) e)
  numbered k core.nothing = nothing
  numbered k (core.before a b) = before (numbered k a) (numbered (k + size a) b)
  numbered k (core.answer e) = answer (numbered k e)
  numbered k (core.answer_fixed n) = answer_fixed n
  numbered k (core.leave e) = leave (numbered k e)

  pub numbered_all : ℕ → CoreTrees → Trees
  numbered_all k core.no_cores = no_trees
  numbered_all k (core.cores c cs) = trees (numbered k c) (numbered_all (k + size c) cs)

  pub numbered_sends : ℕ → SendTrees → Sends
  numbered_sends k core.no_sends = no_sends
  numbered_sends k (core.sends s es ms) = sends s (numbered_all k es) (numbered_sends (k + size_all es) ms)

-- and the list of these
abbrev mutual
  pub blocks : ℕ → CoreTree → List RealBlock
  blocks k (core.leaf l) = []
  blocks k (core.assign v e) = blocks k e
  blocks k (core.value e) = blocks k e
  blocks k (core.send r to_super s es) = blocks k r ++ blocks_all (k + size r) es
  blocks k (core.cascade r to_super ms) = blocks k r ++ blocks_sends (k + size r) ms
  blocks k (core.real_block first n e) = record { first = first; parameters = n; body = numbered (suc k) e } ∷ blocks (suc k) e
  blocks k (core.two_arms on c a b) = blocks k c ++ (blocks (k + size c) a ++ blocks (k + size c + size a) b)
  blocks k (core.one_arm on c a) = blocks k c ++ blocks (k + size c) a
  blocks k (core.shortcut on c a) = blocks k c ++ blocks (k + size c) a
  blocks k (core.repeat on c e) = blocks k c ++ blocks (k + size c) e
  blocks k core.nothing = []
  blocks k (core.before a b) = blocks k a ++ blocks (k + size a) b
  blocks k (core.answer e) = blocks k e
  blocks k (core.answer_fixed n) = []
  blocks k (core.leave e) = blocks k e

  pub blocks_all : ℕ → CoreTrees → List RealBlock
  blocks_all k core.no_cores = []
  blocks_all k (core.cores c cs) = blocks k c ++ blocks_all (k + size c) cs

  pub blocks_sends : ℕ → SendTrees → List RealBlock
  blocks_sends k core.no_sends = []
  blocks_sends k (core.sends s es ms) = blocks_all k es ++ blocks_sends (k + size_all es) ms

-- each of a list once, where it comes first, without those that came before
abbrev pub firsts : List EntryTree → List EntryTree → List EntryTree
firsts seen [] = []
firsts seen (e ∷ es) = if list_any (same_entry e) seen then firsts seen es else e ∷ firsts (seen ++ e ∷ []) es

-- a method or a doIt: how many temporaries there are with the parameters, its primitive, its body, its real blocks, and what it names
-- outside activations, each once, in the order of the text
pub record Meant : Type 0 where
  pub temporaries : ℕ
  pub primitive : ℕ
  pub body : Tree
  pub blocks : List RealBlock
  pub named : List EntryTree

abbrev pub meant_by : MethodParts → CoreTree → Meant
meant_by m c = record { temporaries = temporaries m; primitive = m.primitive; body = numbered 0 c; blocks = blocks 0 c; named = firsts [] (entries c) }

-- which of these a literal is
abbrev pub place_of : LiteralTree → List EntryTree → ℕ
place_of l named = position_or_len (same_entry (constant l)) named

-- a method in a class of this shape
abbrev pub meant_in : MethodParts → Shape → Meant
meant_in m shape = meant_by m (elaborated m shape)
