use Rattle.std.proofs.Common.{◌≡◌, ◌++◌, ◌∷◌, [], ℕ, List, ap, refl, subst, ◌∙◌}
use Rattle.s80_doit.specs.Answer.{EvaluatesTo}
use Rattle.s80_doit.specs.DoIt.{AreGiven, IsRunOf, is_stopped}
use Rattle.s80_model.specs.declared.reply.Reply.TheVariants.{Evaluated}
use Rattle.s80_print.specs.Outcome.{outcome_text}
use Rattle.s80_apply.specs.State.{State}
use Rattle.s80_apply.specs.System.{IsSystemOf, SystemState}
use Rattle.s80_session.specs.Session.{budget_of, keeper_of}
use Rattle.s80_session.proofs.session.Session.evaluate.Goals as goal

pub returns-clause-evaluated : goal.returns-clause-evaluated
returns-clause-evaluated c = λ text code.
    let ran = c.in_ok-ran.ran in
    let system = c.system-system.ensures in
    let P : SystemState → Type 0 = λ s. IsRunOf s text (budget_of c.args.self.now) ran in
    let Q : SystemState → Type 0 = λ s. (state : State) → IsSystemOf s state → EvaluatesTo state text (budget_of c.args.self.now) (outcome_text s.table ran.outcome) (is_stopped ran.outcome.end) in
    let lines : c.append.new.self ≡ outcome_text (keeper_of c.args.self.now).system.table ran.outcome ++ 10 ∷ [] =
    c.in_ok-append.ensures.ok ∙ ap (λ (l : List ℕ). l ++ 10 ∷ []) (c.in_ok-lines.ensures ∙ ap (λ (s : SystemState). outcome_text s.table ran.outcome) system) in (
      ran,
      subst AreGiven system c.in_ok-ran.ensures.given,
      subst P system (c.in_ok-ran.ensures.run text code),
      subst Q system (λ state is. c.in_ok-ran.ensures.evaluates state text is code),
      λ i. Evaluated (lines i) (c.is_stopped-stopped.ensures i),
      refl,
    )
