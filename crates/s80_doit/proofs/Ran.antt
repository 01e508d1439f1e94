-- What a run promises, said of the system, and what its answer's text rests on.
use Rattle.std.proofs.Common.{◌≡◌, ℕ, List, Result, Ok, Err, IfOk, refl, subst}
use Rattle.s80_class.specs.Table.{Table}
use Rattle.s80_code.specs.declared.code.Code.{Code}
use Rattle.s80_dict.specs.Table.{MethodsValue}
use Rattle.s80_object.specs.Objects.{State as Objects}
use Rattle.s80_prims.specs.declared.stop.End.{End}
use Rattle.s80_prims.specs.declared.stop.End.TheVariants.{Answer, Stopped}
use Rattle.s80_prims.specs.declared.stop.Outcome.{Outcome}
use Rattle.s80_apply.specs.Entries.{Entry}
use Rattle.s80_apply.specs.State.{State}
use Rattle.s80_apply.specs.System.{IsSystemOf, SystemState}
use Rattle.s80_machine.specs.Came.{EndIsKnown, RanValue}
use Rattle.s80_machine.specs.Run.{RunsTo}
use Rattle.s80_print.specs.Outcome.{HasKnownAnswer, outcome_text}
use Rattle.s80_doit.specs.Answer.{EvaluatesTo}
use Rattle.s80_doit.specs.DoIt.{AreGiven, IsDoItCode, IsRunOf, is_stopped}

-- runs are told as their trees evaluated
abbrev pub Evaluations : Type 0
Evaluations = (system : SystemState) (state : State) (text : List ℕ) (budget : ℕ) (ran : RanValue) → AreGiven system → IsSystemOf system state → IsRunOf system text budget ran
    → EvaluatesTo state text budget (outcome_text system.table ran.outcome) (is_stopped ran.outcome.end)

-- a run among tables that are the system's
pub is_run : {E : Type 0} (system : SystemState) (t : Table) (methods : MethodsValue Entry) (code : Code) (budget : ℕ) (result : Result RanValue E)
    → t ≡ system.table → methods ≡ system.methods → IfOk result (λ ran. RunsTo t methods code budget ran.outcome) → IfOk result (λ ran. ran.budget ≡ budget)
    → IfOk result (λ ran. (text : List ℕ) → IsDoItCode text code → IsRunOf system text budget ran)
is_run system t methods code budget (Ok ran) table_is methods_are runs under = λ text is. record {
  code = code;
  code_is = is;
  runs = subst (λ (t : Table). RunsTo t system.methods code budget ran.outcome) table_is (subst (λ (m : MethodsValue Entry). RunsTo t m code budget ran.outcome) methods_are runs);
  budget_is = under;
}
is_run system t methods code budget (Err e) table_is methods_are runs under = tt

-- an outcome to which the code runs
pub run_of : (system : SystemState) (text : List ℕ) (code : Code) (budget : ℕ) → IsDoItCode text code → (outcome : Outcome) × RunsTo system.table system.methods code budget outcome
    → (ran : RanValue) × IsRunOf system text budget ran
run_of system text code budget is (outcome, runs) = (record { outcome = outcome; budget = budget }, record { code = code; code_is = is; runs = runs; budget_is = refl })

pub has_known_answer : (t : Table) (s : Objects) (end : End) → EndIsKnown t s end → HasKnownAnswer t s end
has_known_answer t s (Answer v) known = known
has_known_answer t s (Stopped stop) known = tt

-- a run's evaluation, told
pub run_evaluates : Evaluations → {E : Type 0} (system : SystemState) (code : Code) (budget : ℕ) (result : Result RanValue E) → AreGiven system → IfOk result (λ ran. (text : List ℕ) → IsDoItCode text code → IsRunOf system text budget ran)
    → IfOk result (λ ran. (state : State) (text : List ℕ) → IsSystemOf system state → IsDoItCode text code → EvaluatesTo state text budget (outcome_text system.table ran.outcome) (is_stopped ran.outcome.end))
run_evaluates evaluations system code budget (Ok ran) given run = λ state text is_of is. evaluations system state text budget ran given is_of (run text is)
run_evaluates evaluations system code budget (Err e) given run = tt
