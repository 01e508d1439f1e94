-- What the private functions of the elaboration promise.
use Rattle.std.specs.Prelude.{ℕ, ◌+◌, ◌≤◌, List, [], ◌∷◌, cond, length}
use Rattle.std.specs.List.{Contains}
use Rattle.s80_tree.specs.declared.name.NameAt.{NameAt}
use Rattle.s80_tree.specs.Tree.{ExprTrees, method_of}
use Rattle.s80_scope.specs.declared.fit.ending.Ending.{Ending}
use Rattle.s80_scope.specs.Inlined.{is_inlined}
use Rattle.s80_scope.specs.Names.{AreInOrder, declarations_of, means, uses_of}
use Rattle.s80_scope.specs.Shape.{WhereTree}
use Rattle.s80_core.specs.declared.elaboration.Home.{Home}
use Rattle.s80_core.specs.declared.elaboration.walk.Chain.{Chain}
use Rattle.s80_core.specs.declared.elaboration.walk.Chain.TheVariants as chain
use Rattle.s80_core.specs.Core.{CoreTree, CoreTrees, SendTrees, before, core_of, cores, cores_of, no_cores, no_sends, sends}
use Rattle.s80_core.specs.Elaborate.{arms_core, exprs_core, last_core}

-- ---- lists

abbrev pub cores_append : CoreTrees → CoreTrees → CoreTrees
cores_append no_cores more = more
cores_append (cores c cs) more = cores c (cores_append cs more)

abbrev pub sends_append : SendTrees → SendTrees → SendTrees
sends_append no_sends more = more
sends_append (sends s es ms) more = sends s es (sends_append ms more)

-- all but the first
abbrev pub rest_of : CoreTrees → CoreTrees
rest_of no_cores = no_cores
rest_of (cores c cs) = cs

-- trees for their effect alone, and then one more
abbrev pub joined : List CoreTree → CoreTree → CoreTree
joined [] last = last
joined (c ∷ cs) last = before c (joined cs last)

-- ---- names and numbers

-- what a name means in the method and the class of this home
abbrev pub meaning_in : Home → NameAt → WhereTree
meaning_in home = means (method_of home.tree.now) home.shape.now

-- each use of a name in the home can be bound
pub record IsHome (home : Home) : Type 0 where
  pub in_order : AreInOrder (uses_of (method_of home.tree.now))
  pub declarations : length (declarations_of (method_of home.tree.now)) ≤ 31
  pub inst_vars : length home.shape.now.inst_vars ≤ 64

-- names that are used in the home
abbrev pub AreUsed : Home → List NameAt → Type 0
AreUsed home uses = (n : NameAt) → Contains uses n → Contains (uses_of (method_of home.tree.now)) n

-- a part of the home with these uses and so many parameters of blocks, of which the first has this number
pub record IsPart (home : Home) (number : ℕ) (uses : List NameAt) (parameters : ℕ) : Type 0 where
  pub used : AreUsed home uses
  pub room : number + parameters ≤ 31

-- ---- messages

-- the arguments of a chain's last message
abbrev pub arguments_core : (NameAt → WhereTree) → Ending → ℕ → ExprTrees → CoreTrees
arguments_core meaning last number es = cond (is_inlined last) (arms_core meaning number es) (exprs_core meaning number es)

-- a chain with this ending, and with the messages behind semicolons
abbrev pub ended : Chain → Ending → SendTrees → CoreTree
ended (chain.Receiver r) last more = core_of r
ended (chain.Message r to_super s es) last more = last_core last (core_of r) to_super s (cores_of es) (cores_of es) more
