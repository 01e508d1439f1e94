-- Messages with as many arguments as their selectors have parameters, in numbered trees; and what the number of a special message says.
use Rattle.std.proofs.Common.{◌≡◌, ◌≢◌, sym, subst, ℕ, suc, ◌+◌, ◌==◌, List, ◌++◌, false, get_or, slice_get, Some, arith}
use Rattle.std.proofs.lemmas.Bool.Decides.{nat_tests}
use Rattle.s80_code.specs.Special.{special_selectors, special_arguments, block_copy, special_number}
use Rattle.s80_code.proofs.lemmas.SpecialLemmas.{sent_is}
use Rattle.s80_lex.specs.Selector.{IsSelectorOf}
use Rattle.s80_core.specs.Core as core
use Rattle.s80_core.specs.Core.{CoreTree, CoreTrees, SendTrees}
use Rattle.s80_compile.specs.Sent.{IsWellSent, AllWellSent, SendsWellSent}
use Rattle.s80_compile.proofs.DepthSelector.{special_fits}
use Rattle.s80_meaning.proofs.Bodies.{BodiesAre, bodies_append, body_at}
use Rattle.s80_meaning.proofs.Numbered.{count_numbered}
use Rattle.s80_meaning.specs.Tree as tree
use Rattle.s80_meaning.specs.Tree.{Tree, Trees, Sends, RealBlock, count, size, size_all, size_sends, numbered, numbered_all, numbered_sends, blocks, blocks_all, blocks_sends}

-- ---- each message has as many arguments as its selector has parameters; a real block's body stands in the list of blocks

abbrev mutual
  pub Sent : Tree → Type 0
  Sent (tree.leaf l) = Unit {0}
  Sent (tree.assign v e) = Sent e
  Sent (tree.value e) = Sent e
  Sent (tree.send r to_super s es) = Sent r × (AllSent es × IsSelectorOf (count es) s)
  Sent (tree.cascade r to_super ms) = Sent r × SendsSent ms
  Sent (tree.real n) = Unit {0}
  Sent (tree.two_arms on c a b) = Sent c × (Sent a × Sent b)
  Sent (tree.one_arm on c a) = Sent c × Sent a
  Sent (tree.shortcut on c a) = Sent c × Sent a
  Sent (tree.repeat on c e) = Sent c × Sent e
  Sent tree.nothing = Unit {0}
  Sent (tree.before a b) = Sent a × Sent b
  Sent (tree.answer e) = Sent e
  Sent (tree.answer_fixed n) = Unit {0}
  Sent (tree.leave e) = Sent e

  pub AllSent : Trees → Type 0
  AllSent tree.no_trees = Unit {0}
  AllSent (tree.trees e es) = Sent e × AllSent es

  pub SendsSent : Sends → Type 0
  SendsSent tree.no_sends = Unit {0}
  SendsSent (tree.sends s es ms) = (AllSent es × IsSelectorOf (count es) s) × SendsSent ms

-- the bodies of real blocks
abbrev BodiesSent : List RealBlock → Type 0
BodiesSent bs = BodiesAre Sent bs

-- what is made of two parts, one behind the other
both : {A B : Type 0} (bs cs : List RealBlock) → A × BodiesSent bs → B × BodiesSent cs → (A × B) × BodiesSent (bs ++ cs)
both bs cs f g = ((f.0, g.0), bodies_append Sent bs cs f.1 g.1)

selector_still : (k : ℕ) (es : CoreTrees) (s : List ℕ) → IsSelectorOf (core.count es) s → IsSelectorOf (count (numbered_all k es)) s
selector_still k es s h = subst (λ (n : ℕ). IsSelectorOf n s) (sym (count_numbered k es)) h

mutual
  sent_from : (c : CoreTree) (k : ℕ) → IsWellSent c → Sent (numbered k c) × BodiesSent (blocks k c)
  sent_from (core.leaf l) k h = (tt, tt)
  sent_from (core.assign v e) k h = sent_from e k h
  sent_from (core.value e) k h = sent_from e k h
  sent_from (core.send r to_super s es) k h =
      let j = both (blocks k r) (blocks_all (k + size r) es) (sent_from r k h.0) (all_from es (k + size r) h.1.0) in
      ((j.0.0, (j.0.1, selector_still (k + size r) es s h.1.1)), j.1)
  sent_from (core.cascade r to_super ms) k h =
      both (blocks k r) (blocks_sends (k + size r) ms) (sent_from r k h.0) (sends_from ms (k + size r) h.1)
  sent_from (core.real_block first n e) k h = (tt, sent_from e (suc k) h)
  sent_from (core.two_arms on c a b) k h =
      both (blocks k c) (blocks (k + size c) a ++ blocks (k + size c + size a) b) (sent_from c k h.0)
      (both (blocks (k + size c) a) (blocks (k + size c + size a) b) (sent_from a (k + size c) h.1.0) (sent_from b (k + size c + size a) h.1.1))
  sent_from (core.one_arm on c a) k h = both (blocks k c) (blocks (k + size c) a) (sent_from c k h.0) (sent_from a (k + size c) h.1)
  sent_from (core.shortcut on c a) k h = both (blocks k c) (blocks (k + size c) a) (sent_from c k h.0) (sent_from a (k + size c) h.1)
  sent_from (core.repeat on c e) k h = both (blocks k c) (blocks (k + size c) e) (sent_from c k h.0) (sent_from e (k + size c) h.1)
  sent_from core.nothing k h = (tt, tt)
  sent_from (core.before a b) k h = both (blocks k a) (blocks (k + size a) b) (sent_from a k h.0) (sent_from b (k + size a) h.1)
  sent_from (core.answer e) k h = sent_from e k h
  sent_from (core.answer_fixed n) k h = (tt, tt)
  sent_from (core.leave e) k h = sent_from e k h

  all_from : (es : CoreTrees) (k : ℕ) → AllWellSent es → AllSent (numbered_all k es) × BodiesSent (blocks_all k es)
  all_from core.no_cores k h = (tt, tt)
  all_from (core.cores e es) k h = both (blocks k e) (blocks_all (k + size e) es) (sent_from e k h.0) (all_from es (k + size e) h.1)

  sends_from : (ms : SendTrees) (k : ℕ) → SendsWellSent ms → SendsSent (numbered_sends k ms) × BodiesSent (blocks_sends k ms)
  sends_from core.no_sends k h = (tt, tt)
  sends_from (core.sends s es ms) k h =
      let j = both (blocks_all k es) (blocks_sends (k + size_all es) ms) (all_from es k h.0.0) (sends_from ms (k + size_all es) h.1) in
      (((j.0.0, selector_still k es s h.0.1), j.0.1), j.1)

pub sent_numbered : (c : CoreTree) → IsWellSent c → Sent (numbered 0 c) × ((b : ℕ) (block : RealBlock) → slice_get (blocks 0 c) b ≡ Some block → Sent block.body)
sent_numbered c h = let a = sent_from c 0 h in (a.0, body_at Sent (blocks 0 c) a.1)

-- ---- messages with an instruction of their own

pub special_is : (s : List ℕ) (n : ℕ) → special_number s ≡ Some n → ((n == block_copy) ≡ false) × (slice_get special_selectors n ≡ Some s)
special_is s n e = let (here, other) = sent_is s n e in (differs n other, here)
  where
    differs : (x : ℕ) → x ≢ block_copy → (x == block_copy) ≡ false
    differs x other = grind (arith, nat_tests)

pub special_takes : (s : List ℕ) (n k : ℕ) → special_number s ≡ Some n → IsSelectorOf k s → get_or special_arguments n 0 ≡ k
special_takes s n k e h = (special_fits s k n h e).0
