use Rattle.std.proofs.Common.{ℕ, Bool, List}
use Rattle.std.proofs.lemmas.Result.{IfOk-weaker}
use Rattle.s80_apply.specs.State.{State}
use Rattle.s80_apply.specs.System.{IsSystemOf}
use Rattle.s80_machine.specs.Came.{RanValue}
use Rattle.s80_print.specs.Outcome.{outcome_text}
use Rattle.s80_doit.specs.Answer.{EvaluatesTo}
use Rattle.s80_doit.specs.DoIt.{IsDoItCode, IsRunOf, is_stopped}
use Rattle.s80_doit.proofs.Ran.{run_of}
use Rattle.s80_doit.proofs.evaluation.compile.Goals as goal

pub returns-clause-ends : goal.returns-clause-ends
returns-clause-ends c = λ text is_method.
    let system = c.args.system.now in
    IfOk-weaker c.doit_code.result (IsDoItCode text) (λ _. (budget : ℕ) → (ran : RanValue) × IsRunOf system text budget ran)
    (λ code is budget. run_of system text code budget is (c.a_run_ends.ensures system.table system.methods code budget (c.doits_are_given.ensures.setting text code is)))
    (c.doit_code.ensures text is_method)

pub returns-clause-evaluates : goal.returns-clause-evaluates
returns-clause-evaluates c = λ text is_method.
    let system = c.args.system.now in
    IfOk-weaker c.doit_code.result (IsDoItCode text) (λ _. (state : State) (budget : ℕ) → IsSystemOf system state → (told : List ℕ) × (stopped : Bool) × EvaluatesTo state text budget told stopped)
    (λ code is state budget is_of.
    let ran = run_of system text code budget is (c.a_run_ends.ensures system.table system.methods code budget (c.doits_are_given.ensures.setting text code is)) in
    (outcome_text system.table ran.0.outcome, is_stopped ran.0.outcome.end, c.runs_are_evaluations.ensures system state text budget ran.0 c.doits_are_given.ensures.given is_of ran.1))
    (c.doit_code.ensures text is_method)
