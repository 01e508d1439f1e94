-- Code of a tree ends at the place where it begins, or behind it.
use Rattle.std.proofs.Common.{ℕ, zero, suc, ◌<◌, ◌≤◌, List, Bool, arith}
use Rattle.s80_code.specs.declared.instruction.Instruction.TheVariants.{Duplicate, Jump, Pop, PopInto, PushContext, PushFixed, ReturnFixed, ReturnFromBlock, ReturnTop, SendSpecial}
use Rattle.s80_code.specs.declared.instruction.Instruction.{Instruction}
use Rattle.s80_code.specs.declared.instruction.Storage.TheVariants.{Temporary}
use Rattle.s80_code.specs.Entries.{EntryTree}
use Rattle.s80_code.specs.Special.{block_copy}
use Rattle.s80_code.specs.Spelling.{Written}
use Rattle.s80_scope.specs.declared.fit.position.Position.{Position}
use Rattle.s80_scope.specs.declared.fit.position.Position.TheVariants.{Value, Effect}
use Rattle.s80_compile.specs.Rows.{Ends, NilFor, One, Takes, jump_unless}
use Rattle.s80_verify.proofs.lemmas.PlaceLemmas.{goes_forward}
use Rattle.s80_meaning.proofs.Headers.{over_start}
use Rattle.s80_meaning.specs.Tree.{RealBlock, Tree, Trees, Sends, leaf, assign, value, send, cascade, real, two_arms, one_arm, shortcut, repeat, nothing, before, answer, answer_fixed, leave, no_trees, trees, no_sends, sends}
use Rattle.s80_meaning.specs.Places.{At, AllAt, SendsAt}

forward : (bytes : List ℕ) (p : ℕ) (i : Instruction) (q : ℕ) → Written bytes p i q → p < q
forward bytes p i q w = goes_forward bytes p i q w.stands

module _ (bytes : List ℕ) where
  one_ahead : (Is : Instruction → Type 0) (p q : ℕ) → One bytes Is p q → p < q
  one_ahead Is p q r = forward bytes p r.instruction q r.stands

  end_ahead : (position : Position) (p q : ℕ) → Ends bytes position p q → p ≤ q
  end_ahead Value p q r = omega (arith, r)
  end_ahead Effect p q r = omega (arith, forward bytes p Pop q r)

  pub nil_ahead : (position : Position) (p q : ℕ) → NilFor bytes position p q → p ≤ q
  nil_ahead Value p q r = omega (arith, forward bytes p (PushFixed 3) q r)
  nil_ahead Effect p q r = omega (arith, r)

  pub takes_ahead : (first n p q : ℕ) → Takes bytes first n p q → p ≤ q
  takes_ahead first zero p q r = omega (arith, r)
  takes_ahead first (suc n) p q r = let a = takes_ahead (suc first) n p r.mid r.first in omega (arith, a, forward bytes r.mid (PopInto (Temporary first)) q r.second)

  module _ (entries : List EntryTree) (blocks : List RealBlock) (starts : ℕ → ℕ) where
    mutual
      pub ahead : (e : Tree) (position : Position) (p q : ℕ) → At bytes entries blocks starts e position p q → p ≤ q
      ahead (leaf l) position p q r = let a = one_ahead _ p r.mid r.first in let b = end_ahead position r.mid q r.second in omega (arith, a, b)
      ahead (assign v e) position p q r = let a = ahead e Value p r.mid r.first in let b = one_ahead _ r.mid q r.second in omega (arith, a, b)
      ahead (value e) position p q r = let a = ahead e Value p r.mid r.first in let b = end_ahead position r.mid q r.second in omega (arith, a, b)
      ahead (send x to_super s es) position p q r =
          let a = ahead x Value p r.mid r.first in
          let b = all_ahead es r.mid r.second.mid r.second.first in
          let c = one_ahead _ r.second.mid r.second.second.mid r.second.second.first in
          let d = end_ahead position r.second.second.mid q r.second.second.second in
          omega (arith, a, b, c, d)
      ahead (cascade x to_super ms) position p q r =
          let a = ahead x Value p r.mid r.first in
          let b = sends_ahead to_super ms r.mid r.second.mid r.second.first in
          let c = end_ahead position r.second.mid q r.second.second in
          omega (arith, a, b, c)
      ahead (real n) position p q r =
          let a = forward bytes p PushContext r.push r.context in
          let b = one_ahead _ r.push r.copy r.parameters in
          let c = forward bytes r.copy (SendSpecial block_copy) r.jump r.copies in
          let s = over_start bytes r.after r.jump r.start r.over in
          let e = end_ahead position r.after q r.ending in
          omega (arith, a, b, c, s.0, s.1, e)
      ahead (two_arms wants c x y) position p q r =
          let a = ahead c Value p r.test r.condition in
          let b = forward bytes r.test (jump_unless wants r.unless.distance) r.first_at r.unless.stands in
          let d = ahead x position r.first_at r.over r.first in
          let e = forward bytes r.over (Jump r.past.distance) r.second_at r.past.stands in
          let f = ahead y position r.second_at q r.second in
          omega (arith, a, b, d, e, f)
      ahead (one_arm wants c x) Value p q r =
          let a = ahead c Value p r.test r.condition in
          let b = forward bytes r.test (jump_unless wants r.unless.distance) r.first_at r.unless.stands in
          let d = ahead x Value r.first_at r.over r.first in
          let e = forward bytes r.over (Jump r.past.distance) r.second_at r.past.stands in
          let f = nil_ahead Value r.second_at q r.second in
          omega (arith, a, b, d, e, f)
      ahead (one_arm wants c x) Effect p q r =
          let a = ahead c Value p r.test r.condition in
          let b = forward bytes r.test (jump_unless wants r.unless.distance) r.arm_at r.unless.stands in
          let d = ahead x Effect r.arm_at q r.arm in
          omega (arith, a, b, d)
      ahead (shortcut wants c x) position p q s =
          let r = s.first in
          let a = ahead c Value p r.test r.condition in
          let b = forward bytes r.test (jump_unless wants r.unless.distance) r.first_at r.unless.stands in
          let d = ahead x Value r.first_at r.over r.first in
          let e = forward bytes r.over (Jump r.past.distance) r.second_at r.past.stands in
          let f = forward bytes r.second_at (PushFixed _) s.mid r.second in
          let g = end_ahead position s.mid q s.second in
          omega (arith, a, b, d, e, f, g)
      ahead (repeat wants c e) position p q r =
          let a = ahead c Value p r.test r.condition in
          let b = forward bytes r.test (jump_unless wants r.unless.distance) r.body_at r.unless.stands in
          let d = ahead e Effect r.body_at r.over r.body in
          let f = forward bytes r.over (Jump r.back.distance) r.done r.back.stands in
          let g = nil_ahead position r.done q r.leaves in
          omega (arith, a, b, d, f, g)
      ahead nothing position p q r = nil_ahead position p q r
      ahead (before x y) position p q r = let a = ahead x Effect p r.mid r.first in let b = ahead y position r.mid q r.second in omega (arith, a, b)
      ahead (answer e) position p q r = let a = ahead e Value p r.mid r.first in let b = forward bytes r.mid ReturnTop q r.second in omega (arith, a, b)
      ahead (answer_fixed n) position p q r = omega (arith, forward bytes p (ReturnFixed n) q r)
      ahead (leave e) position p q r = let a = ahead e Value p r.mid r.first in let b = forward bytes r.mid ReturnFromBlock q r.second in omega (arith, a, b)

      all_ahead : (es : Trees) (p q : ℕ) → AllAt bytes entries blocks starts es p q → p ≤ q
      all_ahead no_trees p q r = omega (arith, r)
      all_ahead (trees e es) p q r = let a = ahead e Value p r.mid r.first in let b = all_ahead es r.mid q r.second in omega (arith, a, b)

      sends_ahead : (to_super : Bool) (ms : Sends) (p q : ℕ) → SendsAt bytes entries blocks starts to_super ms p q → p ≤ q
      sends_ahead to_super no_sends p q r = omega (arith, r)
      sends_ahead to_super (sends s es no_sends) p q r = let a = all_ahead es p r.mid r.first in let b = one_ahead _ r.mid q r.second in omega (arith, a, b)
      sends_ahead to_super (sends s es (sends z zs more)) p q r =
          let a = forward bytes p Duplicate r.mid r.first in
          let b = all_ahead es r.mid r.second.mid r.second.first in
          let c = one_ahead _ r.second.mid r.second.second.mid r.second.second.first in
          let d = forward bytes r.second.second.mid Pop r.second.second.second.mid r.second.second.second.first in
          let e = sends_ahead to_super (sends z zs more) r.second.second.second.mid q r.second.second.second.second in
          omega (arith, a, b, c, d, e)
