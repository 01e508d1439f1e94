use Rattle.std.proofs.Common.{◌≤◌, inl, inr, ℕ, Bool, List, length, Option, Ok, ap, refl, sym, subst, ◌∙◌}
use Rattle.std.proofs.lemmas.Result.{err_from_is_err_and}
use Rattle.s80_change.specs.declared.change.Change.TheVariants.{DoIt}
use Rattle.s80_form.specs.Form.{IsEvaluatedText}
use Rattle.s80_form.specs.declared.refusal.Refusal.{Refusal}
use Rattle.s80_chunk.specs.declared.item.Item.TheVariants as items
use Rattle.s80_chunk.specs.Chunks.{IsChunkText, longest}
use Rattle.s80_disk.specs.Moments.{LeavesOnly}
use Rattle.s80_disk.proofs.lemmas.Showing.{told_beside}
use Rattle.s80_doit.specs.Answer.{EvaluatesTo}
use Rattle.s80_doit.specs.DoIt.{Fits}
use Rattle.s80_apply.specs.List.{state_of}
use Rattle.s80_apply.specs.System.{IsSystemOf, SystemState}
use Rattle.s80_model.specs.declared.item.SessionItem.TheVariants.{Chunk}
use Rattle.s80_model.specs.Asked.{evaluates}
use Rattle.s80_model.specs.Replies.{AsksIn, Work}
use Rattle.s80_session.specs.Known.{IsKnowing}
use Rattle.s80_session.specs.Session.{last_run_of, was_of}
use Rattle.s80_session.specs.Run.{HasKept}
use Rattle.s80_session.specs.Working.{Ground, IsAmid, IsLawfulFor, Kept}
use Rattle.s80_session.proofs.Asking.{doit_lawful, method_fits}
use Rattle.s80_session.proofs.Evaluating.{asks_doit, replied_evaluated, replied_unkept, unevaluated}
use Rattle.s80_session.proofs.Knowing.{doit_anywhere, keeping_ends}
use Rattle.s80_session.proofs.lemmas.Grounds.{nothing_happens}
use Rattle.s80_session.proofs.Marking.{ran_last}
use Rattle.s80_session.proofs.Stepping.{unreplied}
use Rattle.s80_session.proofs.session.Session.keep_doit.Goals as goal
use Rattle.s80_session.proofs.session.Session.keep_doit.Goals.{After-keep}

pub returns-in_err-code-clause-any_moment : goal.returns-in_err-code-clause-any_moment
returns-in_err-code-clause-any_moment g c = λ work basis chunk short none at.
    nothing_happens g.O.Disk.moment g.O.Disk.left_since _ (g.O.Outside.shown c.args.outside.now) _ c.args.outside.now work basis (λ told image left. let x = g.met.O.Disk.only_now c.args.outside.now told image left in (x.0, x.1 ∙ told_beside g.met.O.Outside.beside_is g.met.O.Outside.shown_is c.args.outside.now)) at

-- what the paths behind the keeping share
module _ (g : _) (c : After-keep g) (work : Work) (basis : Ground) (chunk : IsChunkText c.args.text) (short : length c.args.text ≤ longest) (none : IsEvaluatedText c.args.text) (at : IsAmid (g.O.Disk.may_leave c.args.outside.now) (g.O.Outside.shown c.args.outside.now) c.args.self.now work basis) where
  fits : Fits c.args.text
  fits = method_fits c.args.text c.args.method.now c.requires.method

  lawful : IsLawfulFor work.changes (DoIt c.args.text)
  lawful = doit_lawful work.changes c.args.text chunk short fits none

  -- what the text comes to in the state before it is kept
  comes_to : (told : List ℕ) × (stopped : Bool) × EvaluatesTo (state_of work.changes) c.args.text work.settings.budget told stopped
  comes_to =
      let P : SystemState → Type 0 = λ s. IsSystemOf s (state_of work.changes) in
      c.in_ok-code.ensures.evaluates c.args.text c.requires.method (state_of work.changes) work.settings.budget (subst P (sym c.system.ensures) at.keeps.system)

  asks : (told : List ℕ) × (stopped : Bool) × AsksIn work (Chunk (items.Plain c.args.text)) (evaluates c.args.text told stopped)
  asks = asks_doit work c.args.text comes_to.0 comes_to.1 fits none comes_to.2

  run : LeavesOnly g.O.Disk.moment g.O.Disk.left_since c.args.outside.now c.keep.new.outside (HasKept basis.kept (length basis.put))
  run = c.keep.ensures.any_moment work basis lawful at

pub returns-in_err-keep-clause-replied : goal.returns-in_err-keep-clause-replied
returns-in_err-keep-clause-replied g c = λ work basis chunk short none at.
    let after = (goal.at.returns-in_err-keep-clause-replied g c).After-keep in
    let p = err_from_is_err_and c.from_residual-in_err-keep.result c.from_residual-in_err-keep.ensures.1 in
    rw (p.1, p.2) (unreplied c.in_err-keep.field-0.0 (g.O.Disk.may_leave c.keep.new.outside) (g.O.Outside.shown c.keep.new.outside) c.keep.new.self work basis (Chunk (items.Plain c.args.text)) (c.in_err-keep.ensures.kept work basis (lawful g after work basis chunk short none at) at))

pub returns-in_err-keep-clause-any_moment : goal.returns-in_err-keep-clause-any_moment
returns-in_err-keep-clause-any_moment g c = run g (goal.at.returns-in_err-keep-clause-any_moment g c).After-keep

pub returns-in_err-evaluate-in-None-clause-replied : goal.returns-in_err-evaluate-in-None-clause-replied
returns-in_err-evaluate-in-None-clause-replied g c = λ work basis chunk short none at.
    let after = (goal.at.returns-in_err-evaluate-in-None-clause-replied g c).After-keep in
    let new = g.O.Outside.shown c.keep.new.outside in
    let P : Option Refusal → Type 0 = λ o. Kept (Ok o) (g.O.Disk.may_leave c.keep.new.outside) new c.keep.new.self work basis (DoIt c.args.text) in
    let is_kept = subst P c.in-None.is (c.in_ok-keep.ensures.kept work basis (lawful g after work basis chunk short none at) at) in
    let p = err_from_is_err_and c.from_residual-in_err-evaluate-in-None.result c.from_residual-in_err-evaluate-in-None.ensures.1 in
    let asked = asks g after work basis chunk short none at in
    rw (p.1, p.2) (inr (unevaluated (g.O.Disk.may_leave c.keep.new.outside) new c.keep.new.self c.evaluate.new.self work basis c.args.text (method_fits c.args.text c.args.method.now c.requires.method) none c.evaluate.ensures.rest c.evaluate.ensures.held is_kept asked.0 asked.1 asked.2))

pub returns-in_err-evaluate-in-None-clause-any_moment : goal.returns-in_err-evaluate-in-None-clause-any_moment
returns-in_err-evaluate-in-None-clause-any_moment g c = run g (goal.at.returns-in_err-evaluate-in-None-clause-any_moment g c).After-keep

pub returns-in-None-clause-replied : goal.returns-in-None-clause-replied
returns-in-None-clause-replied g c = λ work basis chunk short none at.
    let after = (goal.at.returns-in-None-clause-replied g c).After-keep in
    let new = g.O.Outside.shown c.keep.new.outside in
    let P : Option Refusal → Type 0 = λ o. Kept (Ok o) (g.O.Disk.may_leave c.keep.new.outside) new c.keep.new.self work basis (DoIt c.args.text) in
    let is_kept = subst P c.in-None.is (c.in_ok-keep.ensures.kept work basis (lawful g after work basis chunk short none at) at) in
    replied_evaluated (g.O.Disk.may_leave c.keep.new.outside) new c.keep.new.self c.evaluate.new.self work basis c.args.text (method_fits c.args.text c.args.method.now c.requires.method) none c.evaluate.ensures.rest c.evaluate.ensures.held is_kept (was_of c.args.self.now) c.in_ok-evaluate-in-None.field-0 (c.in_ok-evaluate-in-None.ensures.evaluated c.args.text (c.in_ok-code.ensures.code c.args.text c.requires.method))

pub returns-in-None-clause-any_moment : goal.returns-in-None-clause-any_moment
returns-in-None-clause-any_moment g c = run g (goal.at.returns-in-None-clause-any_moment g c).After-keep

pub returns-clause-replied : goal.returns-clause-replied
returns-clause-replied g c = λ work basis chunk short none at.
    let after = (goal.at.returns-clause-replied g c).After-keep in
    let new = g.O.Outside.shown c.keep.new.outside in
    let P : Option Refusal → Type 0 = λ o. Kept (Ok o) (g.O.Disk.may_leave c.keep.new.outside) new c.keep.new.self work basis (DoIt c.args.text) in
    replied_unkept (g.O.Disk.may_leave c.keep.new.outside) new c.keep.new.self (was_of c.args.self.now) work basis c.args.text c.in-Some.refusal (method_fits c.args.text c.args.method.now c.requires.method) none (ap last_run_of c.keep.ensures.rest) (subst P c.in-Some.is (c.in_ok-keep.ensures.kept work basis (lawful g after work basis chunk short none at) at))

pub returns-clause-any_moment : goal.returns-clause-any_moment
returns-clause-any_moment g c = run g (goal.at.returns-clause-any_moment g c).After-keep

pub returns-in_err-code-clause-last_run : goal.returns-in_err-code-clause-last_run
returns-in_err-code-clause-last_run g c = λ none.
    let p = err_from_is_err_and c.from_residual.result c.from_residual.ensures.1 in
    rw p.1 refl

pub returns-in_err-keep-clause-last_run : goal.returns-in_err-keep-clause-last_run
returns-in_err-keep-clause-last_run g c = λ none.
    let p = err_from_is_err_and c.from_residual-in_err-keep.result c.from_residual-in_err-keep.ensures.1 in
    rw p.1 (ap last_run_of c.keep.ensures.rest)

pub returns-in_err-evaluate-in-None-clause-last_run : goal.returns-in_err-evaluate-in-None-clause-last_run
returns-in_err-evaluate-in-None-clause-last_run g c = λ none.
    let p = err_from_is_err_and c.from_residual-in_err-evaluate-in-None.result c.from_residual-in_err-evaluate-in-None.ensures.1 in
    rw p.1 (c.in_err-evaluate-in-None.ensures.evaluated c.args.text (c.in_ok-code.ensures.code c.args.text c.requires.method) ∙ ap last_run_of c.keep.ensures.rest)

pub returns-in-None-clause-last_run : goal.returns-in-None-clause-last_run
returns-in-None-clause-last_run g c = λ none.
    ran_last c.args.self.now c.keep.new.self c.evaluate.new.self c.args.text c.in_ok-evaluate-in-None.field-0 (method_fits c.args.text c.args.method.now c.requires.method) none (c.in_ok-evaluate-in-None.ensures.evaluated c.args.text (c.in_ok-code.ensures.code c.args.text c.requires.method)) c.evaluate.ensures.rest

pub returns-clause-last_run : goal.returns-clause-last_run
returns-clause-last_run g c = λ none. inl (ap last_run_of c.keep.ensures.rest)

-- ---- what is known stays known

pub returns-in_err-keep-clause-known : goal.returns-in_err-keep-clause-known
returns-in_err-keep-clause-known g c = λ chunk short evaluated knows.
    let p = err_from_is_err_and c.from_residual-in_err-keep.result c.from_residual-in_err-keep.ensures.1 in
    rw (p.1, p.2) (keeping_ends c.in_err-keep.field-0.0 (g.O.Outside.shown c.keep.new.outside) c.keep.new.self (c.in_err-keep.ensures.known (λ told. doit_anywhere c.args.text c.args.method.now c.requires.method chunk short evaluated) knows))

pub returns-in-None-clause-known : goal.returns-in-None-clause-known
returns-in-None-clause-known g c = λ chunk short evaluated knows.
    subst (λ s. IsKnowing (g.O.Outside.shown c.keep.new.outside) s) (sym c.evaluate.ensures.rest) (c.in_ok-keep.ensures.known (λ told. doit_anywhere c.args.text c.args.method.now c.requires.method chunk short evaluated) knows)

pub returns-clause-known : goal.returns-clause-known
returns-clause-known g c = λ chunk short evaluated knows. c.in_ok-keep.ensures.known (λ told. doit_anywhere c.args.text c.args.method.now c.requires.method chunk short evaluated) knows
