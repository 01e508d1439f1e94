-- A doIt that is kept and evaluated.
use Rattle.std.proofs.Common.{◌≡◌, inl, ℕ, Bool, false, List, [], ◌∷◌, ◌++◌, length, refl, sym, ap, subst, ◌∙◌, Result, Ok, Err, Option, Some}
use Rattle.std.specs.Prelude.{None}
use Rattle.s80_chunk.specs.declared.item.Item.TheVariants as items
use Rattle.s80_change.specs.declared.change.Change.{Change}
use Rattle.s80_change.specs.declared.change.Change.TheVariants.{DoIt}
use Rattle.s80_change.specs.Block.{blocks}
use Rattle.s80_form.specs.declared.refusal.Refusal.{Refusal}
use Rattle.s80_form.specs.Form.{IsEvaluatedText}
use Rattle.s80_disk.specs.Image.{Image}
use Rattle.s80_doit.specs.Answer.{EvaluatesTo}
use Rattle.s80_doit.specs.DoIt.{AreGiven, Fits, IsRunOf, is_stopped}
use Rattle.s80_disk.specs.Shown.{Shown}
use Rattle.s80_keeper.specs.Keeper.{KeeperState, Keeps}
use Rattle.s80_machine.specs.Came.{RanValue}
use Rattle.s80_print.specs.Outcome.{outcome_text}
use Rattle.s80_apply.specs.List.{add, added, refusal_to, state_of}
use Rattle.s80_apply.specs.State.{State}
use Rattle.s80_apply.specs.System.{IsSystemOf, SystemState}
use Rattle.s80_apply.proofs.lemmas.Lists.{state_more}
use Rattle.s80_model.specs.declared.item.SessionItem.TheVariants.{Chunk}
use Rattle.s80_model.specs.declared.reply.Reply.{Reply}
use Rattle.s80_model.specs.declared.reply.Reply.TheVariants.{Accepted, Evaluated, Refused}
use Rattle.s80_model.specs.Asked.{evaluates}
use Rattle.s80_model.specs.Replies.{Work, AsksIn, IsEvaluated, list_or, reply_to_adding, reply_to_evaluating}
use Rattle.s80_model.specs.Settings.{Settings}
use Rattle.s80_session.specs.declared.session.Session.{Session}
use Rattle.s80_session.specs.LastRun.{RunBehindAdding}
use Rattle.s80_session.specs.Session.{Was, budget_of, held_of, keeper_of, kept_versions_of, last_run_of, section_of}
use Rattle.s80_session.specs.Working.{Ground, IsAmid, IsUnevaluated, Kept, Evaluates, Replied, adding}

-- ---- what a doIt asks

-- what a text comes to in the state before it is added is what it comes to behind that, where it is added; of a refused one nothing is told
told_so : (changes : List Change) (text : List ℕ) (settings : Settings) (told : List ℕ) (stopped : Bool) → EvaluatesTo (state_of changes) text settings.budget told stopped
    → (o : Option Refusal) → (t : List ℕ) × (s : Bool) × IsEvaluated (added o (changes ++ DoIt text ∷ [])) text settings t s
told_so changes text settings told stopped h None =
    let P : State → Type 0 = λ s. EvaluatesTo s text settings.budget told stopped in
    (told, stopped, subst P (sym (state_more changes (DoIt text))) h)
told_so changes text settings told stopped h (Some refusal) = ([], false, (refl, refl))

-- so an item that is a doIt asks something
pub asks_doit : (work : Work) (text told : List ℕ) (stopped : Bool) → Fits text → IsEvaluatedText text → EvaluatesTo (state_of work.changes) text work.settings.budget told stopped → (t : List ℕ) × (s : Bool) × AsksIn work (Chunk (items.Plain text)) (evaluates text t s)
asks_doit work text told stopped fits none h =
    let so = told_so work.changes text work.settings told stopped h (refusal_to (state_of work.changes) (length (blocks work.changes)) (DoIt text)) in
    (so.0, so.1, ((fits, refl, none), so.2))

-- ---- what it is answered

-- where it is added
evaluated_added : (r : Result (List Change) Refusal) (changes : List Change) (text : List ℕ) (settings : Settings) (told : List ℕ) (stopped : Bool) → Accepted ≡ reply_to_adding r → EvaluatesTo (state_of (list_or r changes)) text settings.budget told stopped → IsEvaluated r text settings told stopped
evaluated_added (Ok list) changes text settings told stopped e h = h
evaluated_added (Err refusal) changes text settings told stopped e h = absurd (cc)

evaluating_added : (r : Result (List Change) Refusal) (told : List ℕ) (stopped : Bool) → Accepted ≡ reply_to_adding r → Evaluated (told ++ 10 ∷ []) stopped ≡ reply_to_evaluating r told stopped
evaluating_added (Ok changes) told stopped e = refl
evaluating_added (Err refusal) told stopped e = absurd (cc)

run_added : (r : Result (List Change) Refusal) (changes : List Change) (text : List ℕ) (settings : Settings) (before now : Option RanValue) (system : SystemState) (ran : RanValue) → Accepted ≡ reply_to_adding r → IsSystemOf system (state_of (list_or r changes)) → AreGiven system → IsRunOf system text settings.budget ran → now ≡ Some ran
    → RunBehindAdding r text settings (outcome_text system.table ran.outcome) (is_stopped ran.outcome.end) before now
run_added (Ok list) changes text settings before now system ran e is given run last = (ran, record { system = system; is = is; given = given; run = run; told_is = refl; stopped_is = refl }, last)
run_added (Err refusal) changes text settings before now system ran e is given run last = absurd (cc)

-- where it is refused
evaluated_refused : (r : Result (List Change) Refusal) (text : List ℕ) (settings : Settings) (refusal : Refusal) → Refused refusal ≡ reply_to_adding r → IsEvaluated r text settings [] false
evaluated_refused (Ok changes) text settings refusal e = absurd (cc)
evaluated_refused (Err other) text settings refusal e = (refl, refl)

evaluating_refused : (r : Result (List Change) Refusal) (refusal : Refusal) → Refused refusal ≡ reply_to_adding r → Refused refusal ≡ reply_to_evaluating r [] false
evaluating_refused (Ok changes) refusal e = absurd (cc)
evaluating_refused (Err other) refusal e = e

run_refused : (r : Result (List Change) Refusal) (text : List ℕ) (settings : Settings) (refusal : Refusal) (before now : Option RanValue) → Refused refusal ≡ reply_to_adding r → now ≡ before → RunBehindAdding r text settings [] false before now
run_refused (Ok changes) text settings refusal before now e same = absurd (cc)
run_refused (Err other) text settings refusal before now e same = same

-- a doIt that isn't kept isn't evaluated
pub replied_unkept : (may_leave : Image → Type 0) (now : Shown) (session : Session) (was : Was) (work : Work) (basis : Ground) (text : List ℕ) (refusal : Refusal) → Fits text → IsEvaluatedText text → last_run_of session ≡ was.last_run → Kept (Ok (Some refusal)) may_leave now session work basis (DoIt text) → Replied (Ok (Refused refusal)) may_leave now session was work basis (Chunk (items.Plain text))
replied_unkept may_leave now session was work basis text refusal fits none same h =
    let r : Result (List Change) Refusal = add work.changes (DoIt text) in (
      evaluates text [] false,
      ((fits, refl, none), evaluated_refused r text work.settings refusal h.0),
      evaluating_refused r refusal h.0,
      run_refused r text work.settings refusal was.last_run (last_run_of session) h.0 same,
      inl h.1,
    )

-- a doIt that is kept
module _ (may_leave : Image → Type 0) (now : Shown) (mid session : Session) (work : Work) (basis : Ground) (text : List ℕ) (fits : Fits text) (none : IsEvaluatedText text) (rest : session ≡ record mid { last_run = last_run_of session; held = session.held }) (held : held_of session ≡ held_of mid) (h : Kept (Ok None) may_leave now mid work basis (DoIt text)) where
  is_at : IsAmid may_leave now session (adding work (DoIt text)) basis
  is_at = record {
    keeps = let P : KeeperState → Type 0 = λ k. Keeps now.tells now.files may_leave k basis.kept (adding work (DoIt text)).changes in subst P (sym (ap keeper_of rest)) h.1.keeps;
    section = ap section_of rest ∙ h.1.section;
    brief = h.1.brief;
    budget = ap budget_of rest ∙ h.1.budget;
    kept_versions = ap kept_versions_of rest ∙ h.1.kept_versions;
    moment = h.1.moment;
    taken = h.1.taken;
    told = h.1.told;
    held = held ∙ h.1.held;
  }

  -- and is evaluated
  pub replied_evaluated : (was : Was) (reply : Reply) → Evaluates {E = Unit {0}} (Ok reply) mid session text → Replied (Ok reply) may_leave now session was work basis (Chunk (items.Plain text))
  replied_evaluated was reply (ran, given, run, evaluated, reply_is, last) =
      let r : Result (List Change) Refusal = add work.changes (DoIt text) in
      let system : SystemState = (keeper_of mid).system in
      let told : List ℕ = outcome_text system.table ran.outcome in
      let stopped : Bool = is_stopped ran.outcome.end in
      let P : ℕ → Type 0 = λ b. IsRunOf system text b ran in
      let Q : ℕ → Type 0 = λ b. EvaluatesTo (state_of (list_or r work.changes)) text b told stopped in (
        evaluates text told stopped,
        ((fits, refl, none), evaluated_added r work.changes text work.settings told stopped h.0 (subst Q h.1.budget (evaluated (state_of (list_or r work.changes)) h.1.keeps.system))),
        reply_is ∙ evaluating_added r told stopped h.0,
        run_added r work.changes text work.settings was.last_run (last_run_of session) system ran h.0 h.1.keeps.system given (subst P h.1.budget run) last,
        inl is_at,
      )

  -- or memory was wanting for that
  pub unevaluated : (told : List ℕ) (stopped : Bool) → AsksIn work (Chunk (items.Plain text)) (evaluates text told stopped) → IsUnevaluated work (Chunk (items.Plain text)) (λ w. IsAmid may_leave now session w basis)
  unevaluated told stopped asks = (text, told, stopped, asks, is_at)
