-- A run: its steps, and its outcome.
use Rattle.std.specs.Prelude.{◌≡◌, ℕ, zero, suc, [], Option, Some, None}
use Rattle.s80_class.specs.Table.{Table}
use Rattle.s80_code.specs.declared.code.Code.{Code}
use Rattle.s80_dict.specs.Table.{MethodsValue}
use Rattle.s80_dict.specs.declared.dict.MethodEntry.{MethodEntry}
use Rattle.s80_object.specs.declared.value.Value.TheVariants.{Nil}
use Rattle.s80_prims.specs.declared.stop.Outcome.{Outcome}
use Rattle.s80_machine.specs.World.{doit, first_world}
use Rattle.s80_machine.specs.Turn.{State, Turn, Goes, Ends, Stuck}
use Rattle.s80_machine.specs.Step.{activated, turn}
use Rattle.s80_machine.specs.Shared.{outcome_of}

module _ (t : Table) (methods : MethodsValue (MethodEntry Code)) (code : Code) (budget : ℕ) where
  abbrev pub after : Turn → (State → Option Outcome) → Option Outcome
  after (Goes s) go = go s
  after (Ends end w) go = Some (outcome_of end w)
  after Stuck go = None

  -- at most so many steps
  abbrev pub executed : ℕ → State → Option Outcome
  executed zero s = None
  executed (suc n) s = after (turn t methods code budget s) (executed n)

  -- the doIt's own activation: it costs no tick, and nil is its receiver
  abbrev pub start : Turn
  start = activated t methods code budget doit code Nil [] [] (first_world t)

  -- some number of steps behind a turn comes to this outcome
  abbrev pub ComesTo : Turn → Outcome → Type 0
  ComesTo turn outcome = (n : ℕ) × (after turn (executed n) ≡ Some outcome)

  -- the run of the doIt under the budget comes to this outcome
  abbrev pub RunsTo : Outcome → Type 0
  RunsTo outcome = ComesTo start outcome
