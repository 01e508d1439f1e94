-- The run of the doIt that was evaluated last, behind what was asked.
use Rattle.std.specs.Prelude.{◌≡◌, ℕ, Bool, List, [], ◌∷◌, Option, Some, Result, Ok, Err}
use Rattle.s80_change.specs.declared.change.Change.{Change}
use Rattle.s80_change.specs.declared.change.Change.TheVariants.{DoIt}
use Rattle.s80_form.specs.declared.refusal.Refusal.{Refusal}
use Rattle.s80_apply.specs.List.{add, state_of}
use Rattle.s80_apply.specs.System.{IsSystemOf, SystemState}
use Rattle.s80_machine.specs.Came.{RanValue}
use Rattle.s80_print.specs.Outcome.{outcome_text}
use Rattle.s80_doit.specs.DoIt.{AreGiven, IsRunOf, is_stopped}
use Rattle.s80_model.specs.Asked.{Ask, evaluates}
use Rattle.s80_model.specs.Replies.{Work, work_after}
use Rattle.s80_model.specs.Settings.{Settings}

-- the run of a text's code among classes and methods of this list, which is told so
pub record IsRunIn (changes : List Change) (text : List ℕ) (budget : ℕ) (told : List ℕ) (stopped : Bool) (ran : RanValue) : Type 0 where
  pub system : SystemState
  pub is : IsSystemOf system (state_of changes)
  pub given : AreGiven system
  pub run : IsRunOf system text budget ran
  pub told_is : told ≡ outcome_text system.table ran.outcome
  pub stopped_is : stopped ≡ is_stopped ran.outcome.end

-- behind a doIt that was added it is this one's; where it was refused it is the one before
abbrev pub RunBehindAdding : Result (List Change) Refusal → List ℕ → Settings → List ℕ → Bool → Option RanValue → Option RanValue → Type 0
RunBehindAdding (Ok changes) text settings told stopped before now = (ran : RanValue) × IsRunIn changes text settings.budget told stopped ran × (now ≡ Some ran)
RunBehindAdding (Err refusal) text settings told stopped before now = now ≡ before

abbrev pub RunBehind : Work → Ask → Option RanValue → Option RanValue → Type 0
RunBehind work (evaluates text told stopped) before now = RunBehindAdding (add work.changes (DoIt text)) text work.settings told stopped before now
RunBehind work _ before now = now ≡ before

-- behind all that is asked
abbrev pub RunBehindAll : Work → List Ask → Option RanValue → Option RanValue → Type 0
RunBehindAll work [] before now = now ≡ before
RunBehindAll work (ask ∷ asks) before now = (mid : Option RanValue) × RunBehind work ask before mid × RunBehindAll (work_after work ask) asks mid now
