-- How a body ends: what holds of each ending holds of the body.
use Rattle.std.proofs.Common.{ℕ, Bool, true, false, Option, Some, None}
use Rattle.std.specs.Option.{option_map_or}
use Rattle.s80_tree.specs.Tree.{ExprTree}
use Rattle.s80_core.specs.declared.elaboration.Enclosing.{Enclosing}
use Rattle.s80_core.specs.declared.elaboration.Enclosing.TheVariants as enclosing
use Rattle.s80_core.specs.Core.{CoreTree, nothing, before, answer, answer_fixed, leave}
use Rattle.s80_core.specs.Elaborate.{fixed_return, statement, last_statement, empty_body}

-- endings keep P
pub record KeepsAtEnds (P : CoreTree → Type 0) : Type 0 where
  pub empty : P nothing
  pub fixed : (n : ℕ) → P (answer_fixed n)
  pub answers : (c : CoreTree) → P c → P (answer c)
  pub leaves : (c : CoreTree) → P c → P (leave c)
  pub returns : (c : CoreTree) → P c → P (before c (answer_fixed 0))

module _ (P : CoreTree → Type 0) (k : KeepsAtEnds P) where
  pub statement_kept : (returns : Bool) (e : ExprTree) (c : CoreTree) → P c → P (statement returns e c)
  statement_kept false e c h = h
  statement_kept true e c h = by_number (fixed_return e)
    where
      by_number : (o : Option ℕ) → P (option_map_or answer_fixed o (answer c))
      by_number None = k.answers c h
      by_number (Some n) = k.fixed n

  pub last_kept : (within : Enclosing) (returns : Bool) (e : ExprTree) (c : CoreTree) → P c → P (last_statement within returns e c)
  last_kept enclosing.Block false e c h = k.leaves c h
  last_kept enclosing.Method false e c h = k.returns c h
  last_kept enclosing.DoIt returns e c h = k.answers c h
  last_kept enclosing.Arm returns e c h = statement_kept returns e c h
  last_kept enclosing.Block true e c h = statement_kept true e c h
  last_kept enclosing.Method true e c h = statement_kept true e c h

  pub empty_kept : (within : Enclosing) → P (empty_body within)
  empty_kept enclosing.Arm = k.empty
  empty_kept enclosing.Block = k.leaves nothing k.empty
  empty_kept enclosing.Method = k.fixed 0
  empty_kept enclosing.DoIt = k.fixed 3
