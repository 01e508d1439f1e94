-- A run ends: no step of verified code is stuck, and each leaves less.
use Rattle.std.proofs.Common.{◌≡◌, refl, ℕ, zero, suc, ◌<◌, arith}
use Rattle.s80_class.specs.Table.{Table}
use Rattle.s80_code.specs.declared.code.Code.{Code}
use Rattle.s80_dict.specs.Table.{MethodsValue}
use Rattle.s80_dict.specs.declared.dict.MethodEntry.{MethodEntry}
use Rattle.s80_prims.specs.declared.stop.Outcome.{Outcome}
use Rattle.s80_machine.specs.Turn.{State, Turn, Goes, Ends, Stuck}
use Rattle.s80_machine.specs.Step.{turn}
use Rattle.s80_machine.specs.Run.{ComesTo, RunsTo, start}
use Rattle.s80_machine.specs.Shared.{outcome_of}
use Rattle.s80_machine.specs.Sound.{IsSound, IsSoundTurn}
use Rattle.s80_machine.specs.Measure.{IsWithin, steps_left}
use Rattle.s80_machine.proofs.LeftTurn.{begins_within, leaves_less}

module _ (t : Table) (methods : MethodsValue (MethodEntry Code)) (code : Code) (budget : ℕ) where
  -- some outcome comes behind a turn
  abbrev Finishes : Turn → Type 0
  Finishes at = (outcome : Outcome) × ComesTo t methods code budget at outcome

  behind : (at : Turn) → IsSoundTurn t methods code at → ((next : State) → at ≡ Goes next → IsSound t methods code next → Finishes (turn t methods code budget next)) → Finishes at
  behind (Goes next) sound later = let (outcome, (n, is)) = later next refl sound in (outcome, (suc n, is))
  behind (Ends end w) sound later = (outcome_of end w, (0, refl))
  behind Stuck sound later = absurd sound

  module _ (goes_on : (s : State) → IsSound t methods code s → IsSoundTurn t methods code (turn t methods code budget s)) where
    finishes : (n : ℕ) (s : State) → IsSound t methods code s → IsWithin budget s → steps_left budget s < n → Finishes (turn t methods code budget s)
    finishes zero s sound within less = absurd (omega (arith, less))
    finishes (suc n) s sound within less =
        behind (turn t methods code budget s) (goes_on s sound)
        (λ next e further. let l = leaves_less t methods code budget s next sound within e in finishes n next further l.0 (omega (arith, l.1, less)))

    pub run_ends : IsSoundTurn t methods code (start t methods code budget) → (outcome : Outcome) × RunsTo t methods code budget outcome
    run_ends begins =
        behind (start t methods code budget) begins
        (λ s e sound. finishes (suc (steps_left budget s)) s sound (begins_within t methods code budget s e) (omega arith))
