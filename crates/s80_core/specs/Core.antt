-- Core trees without where they lie in memory.
use Rattle.std.specs.Prelude.{ℕ, suc, List, [], ◌∷◌, Bool}
use Rattle.s80_base.specs.Literal.{LiteralTree, literal_of}
use Rattle.s80_core.specs.declared.core_tree.Variable.{Variable}
use Rattle.s80_core.specs.declared.core_tree.Variable.TheVariants as variable_kind
use Rattle.s80_core.specs.declared.core_tree.Leaf.{Leaf}
use Rattle.s80_core.specs.declared.core_tree.Leaf.TheVariants as leaf_kind
use Rattle.s80_core.specs.declared.core_tree.Core.{Core}
use Rattle.s80_core.specs.declared.core_tree.Cores.{Cores}
use Rattle.s80_core.specs.declared.core_tree.CoreMessage.{CoreMessage}
use Rattle.s80_core.specs.declared.core_tree.CoreMessages.{CoreMessages}
use Rattle.s80_core.specs.declared.core_tree.Core.TheOpen.{Core-F, Cores-F, CoreMessage-F, CoreMessages-F}
use Rattle.s80_core.specs.declared.core_tree.Core.TheOpen as layer
use Rattle.s80_core.specs.declared.core_tree.Core.TheFolds.{fold-Core, fold-Cores, fold-CoreMessage, fold-CoreMessages}

-- what a value can be stored into
pub data VariableTree : Type 0 where
  temporary : ℕ → VariableTree
  instance : ℕ → VariableTree
  class_variable : List ℕ → List ℕ → VariableTree
  outer : List ℕ → VariableTree

-- what one instruction pushes
pub data LeafTree : Type 0 where
  variable : VariableTree → LeafTree
  constant : LiteralTree → LeafTree
  receiver : LeafTree
  context : LeafTree

mutual
  pub data CoreTree : Type 0 where
    leaf : LeafTree → CoreTree
    assign : VariableTree → CoreTree → CoreTree
    -- an expression in parentheses
    value : CoreTree → CoreTree
    -- the receiver, whether it goes to super, the selector and the arguments
    send : CoreTree → Bool → List ℕ → CoreTrees → CoreTree
    cascade : CoreTree → Bool → SendTrees → CoreTree
    -- the number of the first parameter, how many there are, and the body
    real_block : ℕ → ℕ → CoreTree → CoreTree
    -- control: on which condition the first arm is taken or the loop goes on, the condition, and the arms
    two_arms : Bool → CoreTree → CoreTree → CoreTree → CoreTree
    one_arm : Bool → CoreTree → CoreTree → CoreTree
    shortcut : Bool → CoreTree → CoreTree → CoreTree
    repeat : Bool → CoreTree → CoreTree → CoreTree
    nothing : CoreTree
    -- the first for its effect alone, then the second
    before : CoreTree → CoreTree → CoreTree
    -- returns from the method: a value, or the receiver, true, false or nil
    answer : CoreTree → CoreTree
    answer_fixed : ℕ → CoreTree
    -- ends a real block with its value
    leave : CoreTree → CoreTree

  pub data CoreTrees : Type 0 where
    no_cores : CoreTrees
    cores : CoreTree → CoreTrees → CoreTrees

  -- a selector and its arguments, and further messages
  pub data SendTrees : Type 0 where
    no_sends : SendTrees
    sends : List ℕ → CoreTrees → SendTrees → SendTrees

abbrev pub SendTree : Type 0
SendTree = List ℕ × CoreTrees

-- how many there are
abbrev pub count : CoreTrees → ℕ
count no_cores = 0
count (cores c cs) = suc (count cs)

abbrev pub cores_from : List CoreTree → CoreTrees
cores_from [] = no_cores
cores_from (c ∷ cs) = cores c (cores_from cs)

abbrev pub sends_from : List SendTree → SendTrees
sends_from [] = no_sends
sends_from (m ∷ ms) = sends m.0 m.1 (sends_from ms)

abbrev pub variable_of : Variable → VariableTree
variable_of (variable_kind.Temporary number) = temporary number
variable_of (variable_kind.Instance place) = instance place
variable_of (variable_kind.Class owner word) = class_variable owner word
variable_of (variable_kind.Outer word) = outer word

abbrev pub leaf_of : Leaf → LeafTree
leaf_of (leaf_kind.Variable v) = variable (variable_of v)
leaf_of (leaf_kind.Constant l) = constant (literal_of l)
leaf_of leaf_kind.Receiver = receiver
leaf_of leaf_kind.Context = context

-- one layer of each type, with the trees of its parts
abbrev pub core_layer : Core-F CoreTree SendTree SendTrees CoreTrees → CoreTree
core_layer (layer.Leaf l) = leaf (leaf_of l)
core_layer (layer.Assign v e) = assign (variable_of v) e.value
core_layer (layer.Value e) = value e.value
core_layer (layer.Send r to_super m) = send r.value to_super m.0 m.1
core_layer (layer.Cascade r to_super ms) = cascade r.value to_super ms
core_layer (layer.RealBlock first n e) = real_block first n e.value
core_layer (layer.TwoArms on c a b) = two_arms on c.value a.value b.value
core_layer (layer.OneArm on c a) = one_arm on c.value a.value
core_layer (layer.Shortcut on c a) = shortcut on c.value a.value
core_layer (layer.Loop on c e) = repeat on c.value e.value
core_layer layer.Nothing = nothing
core_layer (layer.Then a b) = before a.value b.value
core_layer (layer.Return e) = answer e.value
core_layer (layer.ReturnFixed n) = answer_fixed n
core_layer (layer.Leave e) = leave e.value

abbrev pub cores_layer : Cores-F CoreTree SendTree SendTrees CoreTrees → CoreTrees
cores_layer cs = cores_from cs.items.items

abbrev pub send_layer : CoreMessage-F CoreTree SendTree SendTrees CoreTrees → SendTree
send_layer m = (m.selector, m.arguments)

abbrev pub sends_layer : CoreMessages-F CoreTree SendTree SendTrees CoreTrees → SendTrees
sends_layer ms = sends_from ms.items.items

abbrev pub core_of : Core → CoreTree
core_of = fold-Core CoreTree SendTree SendTrees CoreTrees core_layer send_layer sends_layer cores_layer

abbrev pub cores_of : Cores → CoreTrees
cores_of = fold-Cores CoreTree SendTree SendTrees CoreTrees core_layer send_layer sends_layer cores_layer

abbrev pub send_of : CoreMessage → SendTree
send_of = fold-CoreMessage CoreTree SendTree SendTrees CoreTrees core_layer send_layer sends_layer cores_layer

abbrev pub sends_of : CoreMessages → SendTrees
sends_of = fold-CoreMessages CoreTree SendTree SendTrees CoreTrees core_layer send_layer sends_layer cores_layer
