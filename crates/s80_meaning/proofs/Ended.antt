-- A body ends with a return, or leaves its activation: it gives no value to what stands behind it.
use Rattle.std.proofs.Common.{◌≡◌, ℕ, suc, ◌+◌, List, ◌++◌, Bool, true, false, Option, Some, None, if◌then◌else◌}
use Rattle.std.specs.Prelude.{slice_get}
use Rattle.s80_class.specs.Table.{Table}
use Rattle.s80_tree.specs.Tree.{MethodParts}
use Rattle.s80_scope.specs.declared.shape.Shape.{Shape}
use Rattle.s80_object.specs.declared.value.Value.{Value}
use Rattle.s80_core.specs.Core as core
use Rattle.s80_core.specs.Core.{CoreTree, CoreTrees, SendTrees}
use Rattle.s80_core.specs.Elaborate.{elaborated}
use Rattle.s80_core.specs.Measures.{Finishes, LeavesBlocks, AllLeaveBlocks, SendsLeaveBlocks}
use Rattle.s80_core.proofs.FitFinishes.{finished}
use Rattle.s80_prims.specs.declared.stop.Stop.TheVariants.{CannotReturn}
use Rattle.s80_machine.specs.World.{World, Activation, own, home}
use Rattle.s80_machine.specs.World as world
use Rattle.s80_machine.specs.Shared.{fixed}
use Rattle.s80_meaning.proofs.Bodies.{BodiesAre, bodies_append, body_at}
use Rattle.s80_meaning.specs.Meaning.{Out, Gives, Answers, Returns, Stopped, Unfinished, Here, Evaluator, Methods, and_then, ev, is_alive, returned, with_part}
use Rattle.s80_meaning.specs.Tree.{Meant, RealBlock, Tree, leaf, assign, value, send, cascade, real, two_arms, one_arm, shortcut, repeat, nothing, before, answer, answer_fixed, leave, size, size_all, numbered, blocks, blocks_all, blocks_sends}

-- a tree that never gives a value to what stands behind it
abbrev pub Ends : Tree → Type 0
Ends (before a b) = Ends b
Ends (answer e) = Unit {0}
Ends (answer_fixed n) = Unit {0}
Ends (leave e) = Unit {0}
Ends _ = ⊥

-- ---- bodies of methods and of real blocks

-- a core tree that ends itself, numbered
tree_ends : (in_block : Bool) (c : CoreTree) (k : ℕ) → Finishes in_block c → Ends (numbered k c)
tree_ends in_block (core.before a b) k h = tree_ends in_block b (k + size a) h.1
tree_ends in_block (core.answer e) k h = tt
tree_ends in_block (core.answer_fixed n) k h = tt
tree_ends true (core.leave e) k h = tt
tree_ends false (core.leave e) k h = absurd h
tree_ends in_block (core.leaf l) k h = absurd h
tree_ends in_block (core.assign v e) k h = absurd h
tree_ends in_block (core.value e) k h = absurd h
tree_ends in_block (core.send r to_super s es) k h = absurd h
tree_ends in_block (core.cascade r to_super ms) k h = absurd h
tree_ends in_block (core.real_block first n e) k h = absurd h
tree_ends in_block (core.two_arms on c a b) k h = absurd h
tree_ends in_block (core.one_arm on c a) k h = absurd h
tree_ends in_block (core.shortcut on c a) k h = absurd h
tree_ends in_block (core.repeat on c e) k h = absurd h
tree_ends in_block core.nothing k h = absurd h

-- the body of a method or a doIt
pub body_ends : (m : MethodParts) (shape : Shape) → Ends (numbered 0 (elaborated m shape))
body_ends m shape = tree_ends false (elaborated m shape) 0 (finished m shape)

-- the bodies of real blocks
abbrev BodiesEnd : List RealBlock → Type 0
BodiesEnd bs = BodiesAre Ends bs

mutual
  -- in a tree that ends itself
  ended_blocks : (in_block : Bool) (c : CoreTree) (k : ℕ) → Finishes in_block c → BodiesEnd (blocks k c)
  ended_blocks in_block (core.before a b) k h =
      bodies_append Ends (blocks k a) (blocks (k + size a) b) (left_blocks a k h.0) (ended_blocks in_block b (k + size a) h.1)
  ended_blocks in_block (core.answer e) k h = left_blocks e k h
  ended_blocks in_block (core.answer_fixed n) k h = tt
  ended_blocks true (core.leave e) k h = left_blocks e k h
  ended_blocks false (core.leave e) k h = absurd h
  ended_blocks in_block (core.leaf l) k h = absurd h
  ended_blocks in_block (core.assign v e) k h = absurd h
  ended_blocks in_block (core.value e) k h = absurd h
  ended_blocks in_block (core.send r to_super s es) k h = absurd h
  ended_blocks in_block (core.cascade r to_super ms) k h = absurd h
  ended_blocks in_block (core.real_block first n e) k h = absurd h
  ended_blocks in_block (core.two_arms on c a b) k h = absurd h
  ended_blocks in_block (core.one_arm on c a) k h = absurd h
  ended_blocks in_block (core.shortcut on c a) k h = absurd h
  ended_blocks in_block (core.repeat on c e) k h = absurd h
  ended_blocks in_block core.nothing k h = absurd h

  -- and in one that gives a value
  left_blocks : (c : CoreTree) (k : ℕ) → LeavesBlocks c → BodiesEnd (blocks k c)
  left_blocks (core.leaf l) k h = tt
  left_blocks (core.assign v e) k h = left_blocks e k h
  left_blocks (core.value e) k h = left_blocks e k h
  left_blocks (core.send r to_super s es) k h = bodies_append Ends (blocks k r) (blocks_all (k + size r) es) (left_blocks r k h.0) (all_left es (k + size r) h.1)
  left_blocks (core.cascade r to_super ms) k h = bodies_append Ends (blocks k r) (blocks_sends (k + size r) ms) (left_blocks r k h.0) (sends_left ms (k + size r) h.1)
  left_blocks (core.real_block first n e) k h = (tree_ends true e (suc k) h, ended_blocks true e (suc k) h)
  left_blocks (core.two_arms on c a b) k h =
      bodies_append Ends (blocks k c) (blocks (k + size c) a ++ blocks (k + size c + size a) b) (left_blocks c k h.0)
      (bodies_append Ends (blocks (k + size c) a) (blocks (k + size c + size a) b) (left_blocks a (k + size c) h.1.0) (left_blocks b (k + size c + size a) h.1.1))
  left_blocks (core.one_arm on c a) k h = bodies_append Ends (blocks k c) (blocks (k + size c) a) (left_blocks c k h.0) (left_blocks a (k + size c) h.1)
  left_blocks (core.shortcut on c a) k h = bodies_append Ends (blocks k c) (blocks (k + size c) a) (left_blocks c k h.0) (left_blocks a (k + size c) h.1)
  left_blocks (core.repeat on c e) k h = bodies_append Ends (blocks k c) (blocks (k + size c) e) (left_blocks c k h.0) (left_blocks e (k + size c) h.1)
  left_blocks core.nothing k h = tt
  left_blocks (core.before a b) k h = bodies_append Ends (blocks k a) (blocks (k + size a) b) (left_blocks a k h.0) (left_blocks b (k + size a) h.1)
  left_blocks (core.answer e) k h = left_blocks e k h
  left_blocks (core.answer_fixed n) k h = tt
  left_blocks (core.leave e) k h = absurd h

  all_left : (es : CoreTrees) (k : ℕ) → AllLeaveBlocks es → BodiesEnd (blocks_all k es)
  all_left core.no_cores k h = tt
  all_left (core.cores e es) k h = bodies_append Ends (blocks k e) (blocks_all (k + size e) es) (left_blocks e k h.0) (all_left es (k + size e) h.1)

  sends_left : (ms : SendTrees) (k : ℕ) → SendsLeaveBlocks ms → BodiesEnd (blocks_sends k ms)
  sends_left core.no_sends k h = tt
  sends_left (core.sends s es ms) k h = bodies_append Ends (blocks_all k es) (blocks_sends (k + size_all es) ms) (all_left es k h.0) (sends_left ms (k + size_all es) h.1)

-- and that of each of its real blocks
pub blocks_end : (m : MethodParts) (shape : Shape) (b : ℕ) (block : RealBlock) → slice_get (blocks 0 (elaborated m shape)) b ≡ Some block → Ends block.body
blocks_end m shape = body_at Ends (blocks 0 (elaborated m shape)) (ended_blocks false (elaborated m shape) 0 (finished m shape))

-- ---- no value is given

-- what gives no value
abbrev Silent : Out Value → Type 0
Silent o = (v : Value) (w : World) (f : Activation) → o ≡ Gives v w f → ⊥

returned_silent : (f : Activation) (alive : List Activation) (x : Value) (u : World) → Silent (returned f alive x u)
returned_silent (own temporaries) alive x u v w g e = cc
returned_silent (home h) alive x u v w g e = cc
returned_silent (world.block b h) alive x u v w g e = by_alive (is_alive h alive) e
  where
    by_alive : (test : Bool) → (if test then Returns h x u else Stopped CannotReturn u) ≡ Gives v w g → ⊥
    by_alive true e = cc
    by_alive false e = cc

-- what goes on to something that gives no value
then_silent : (o : Out Value) (go : Value → World → Activation → Out Value) → ((x : Value) (u : World) (g : Activation) → Silent (go x u g)) → Silent (and_then o go)
then_silent (Gives x u g) go h v w f e = h x u g v w f e
then_silent (Answers x u) go h v w f e = cc
then_silent (Returns k x u) go h v w f e = cc
then_silent (Stopped stop u) go h v w f e = cc
then_silent Unfinished go h v w f e = cc

part_silent : (o : Option Value) (go : Value → Out Value) → ((x : Value) → Silent (go x)) → Silent (with_part o go)
part_silent None go h v w f e = cc
part_silent (Some x) go h v w f e = h x v w f e

module _ (t : Table) (methods : Methods) (doit : Meant) (budget : ℕ) (next : Evaluator) where
  pub never_gives : (e : Tree) → Ends e → (here : Here) (w : World) (f : Activation) (v : Value) (w1 : World) (f1 : Activation) → ev t methods doit budget next e here w f ≡ Gives v w1 f1 → ⊥
  never_gives (before a b) h here w f = then_silent (ev t methods doit budget next a here w f) (λ x u g. ev t methods doit budget next b here u g) (λ x u g. never_gives b h here u g)
  never_gives (answer e) h here w f =
      then_silent (ev t methods doit budget next e here w f) (λ x u g. returned g here.alive x u) (λ x u g. returned_silent g here.alive x u)
  never_gives (answer_fixed n) h here w f = part_silent (slice_get (fixed here.receiver) n) (λ x. returned f here.alive x w) (λ x. returned_silent f here.alive x w)
  never_gives (leave e) h here w f = then_silent (ev t methods doit budget next e here w f) (λ x u g. Answers x u) (λ x u g v w1 f1 e. cc)
  never_gives (leaf l) h here w f = absurd h
  never_gives (assign v e) h here w f = absurd h
  never_gives (value e) h here w f = absurd h
  never_gives (send r to_super s es) h here w f = absurd h
  never_gives (cascade r to_super ms) h here w f = absurd h
  never_gives (real n) h here w f = absurd h
  never_gives (two_arms on c a b) h here w f = absurd h
  never_gives (one_arm on c a) h here w f = absurd h
  never_gives (shortcut on c a) h here w f = absurd h
  never_gives (repeat on c e) h here w f = absurd h
  never_gives nothing h here w f = absurd h
