-- The machine follows trees at any number of ticks that are left, by induction on it.
use Rattle.std.proofs.Common.{◌≡◌, ℕ, zero, suc, ◌+◌, arith}
use Rattle.s80_machine.specs.Step.{sent}
use Rattle.s80_meaning.specs.Meaning as meaning
use Rattle.s80_meaning.proofs.Ended as ended
use Rattle.s80_meaning.proofs.Corresponds.{Quiet, Ready, Setting, Sim}
use Rattle.s80_meaning.proofs.TreesFollow.{follows}

module _ (on : Setting) where
  open on use {table as t, methods, meant, budget}

  -- no evaluator gives a value of a tree that ends its activation
  pub quiet_all : (n : ℕ) → Quiet (meaning.evaluated t methods meant budget n)
  quiet_all zero e ends here w f v w1 f1 is = cc
  quiet_all (suc n) e ends here w f v w1 f1 is = ended.never_gives t methods meant budget (meaning.evaluated t methods meant budget n) e ends here w f v w1 f1 is

  -- past the budget nothing runs
  too_deep : (k : ℕ) → k ≡ suc budget → Sim on k (meaning.evaluated t methods meant budget zero)
  too_deep k deep a enough e position p q r sent f stack w known = absurd (omega (arith, deep, enough, known.spent, known.fine.in_time))

  -- as deep as there are ticks left
  pub sims : (ready : Ready on) (n k : ℕ) → n + k ≡ suc budget → Sim on k (meaning.evaluated t methods meant budget n)
  sims ready zero k deep = too_deep k (omega (arith, deep))
  sims ready (suc n) k deep = follows {on = on} (record { ready = ready; next = meaning.evaluated t methods meant budget n; k = k; sim = sims ready n (suc k) (omega (arith, deep)); quiet = quiet_all n })
