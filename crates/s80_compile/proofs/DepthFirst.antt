-- A core tree that asks for no room begins with a return.
use Rattle.std.proofs.Common.{ℕ, ◌≤◌, List, arith}
use Rattle.s80_code.specs.declared.instruction.Instruction.TheVariants.{ReturnFixed}
use Rattle.s80_code.specs.Entries.{EntryTree}
use Rattle.s80_code.specs.Table.{Stands}
use Rattle.s80_scope.specs.declared.fit.position.Position.{Position}
use Rattle.s80_scope.specs.declared.fit.position.Position.TheVariants.{Value, Effect}
use Rattle.s80_core.specs.Core.{CoreTree, leaf, assign, value, send, cascade, real_block, two_arms, one_arm, shortcut, repeat, nothing, before, answer, answer_fixed, leave}
use Rattle.s80_core.specs.Measures.{needs}
use Rattle.s80_compile.specs.Rows.{At}
use Rattle.s80_compile.proofs.DepthCore.{args_room}

pub record BeginsFixed (bytes : List ℕ) (p : ℕ) : Type 0 where
  pub number : ℕ
  pub behind : ℕ
  pub stands : Stands bytes p (ReturnFixed number) behind

module _ (bytes : List ℕ) (entries : List EntryTree) where
  pub begins_fixed : (c : CoreTree) (position : Position) (p q : ℕ) → At bytes entries c position p q → (needs c).here ≤ 0 → BeginsFixed bytes p
  begins_fixed (leaf l) position p q a less = absurd (omega (arith, less))
  begins_fixed (assign v e) position p q a less = begins_fixed e Value p a.mid a.first less
  begins_fixed (value e) position p q a less = begins_fixed e Value p a.mid a.first less
  begins_fixed (send r to_super s es) position p q a less = absurd (omega (arith, less, args_room 1 es))
  begins_fixed (cascade r to_super ms) position p q a less = begins_fixed r Value p a.mid a.first (omega (arith, less))
  begins_fixed (real_block first n e) position p q a less = absurd (omega (arith, less))
  begins_fixed (two_arms on c a b) position p q t less = begins_fixed c Value p t.test t.condition (omega (arith, less))
  begins_fixed (one_arm on c a) position p q t less = absurd (omega (arith, less))
  begins_fixed (shortcut on c a) position p q t less = absurd (omega (arith, less))
  begins_fixed (repeat on c e) position p q t less = absurd (omega (arith, less))
  begins_fixed nothing position p q a less = absurd (omega (arith, less))
  begins_fixed (before a b) position p q t less = begins_fixed a Effect p t.mid t.first (omega (arith, less))
  begins_fixed (answer e) position p q t less = begins_fixed e Value p t.mid t.first less
  begins_fixed (answer_fixed n) position p q s less = record { number = n; behind = q; stands = s.stands }
  begins_fixed (leave e) position p q t less = begins_fixed e Value p t.mid t.first less
