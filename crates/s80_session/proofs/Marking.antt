-- The run of the doIt that was evaluated last, behind an item and behind many, whatever the outside tells.
use Rattle.std.proofs.Common.{◌≡◌, ◌⊎◌, inl, inr, ℕ, List, refl, sym, ap, subst, ◌∙◌, Result, Ok, Err, Option}
use Rattle.std.specs.Prelude.{IfErr}
use Rattle.s80_form.specs.Form.{IsEvaluatedText}
use Rattle.s80_chunk.specs.declared.item.Item.TheVariants as items
use Rattle.s80_doit.specs.DoIt.{AreGiven, Fits, IsRunOf}
use Rattle.s80_machine.specs.Came.{RanValue}
use Rattle.s80_apply.specs.System.{SystemState}
use Rattle.s80_model.specs.declared.item.SessionItem.{SessionItem}
use Rattle.s80_model.specs.declared.item.SessionItem.TheVariants.{Chunk, Unended, Query}
use Rattle.s80_model.specs.declared.reply.Answer.{Answer}
use Rattle.s80_model.specs.declared.reply.Reply.{Reply}
use Rattle.s80_session.specs.declared.end.SessionEnd.{SessionEnd}
use Rattle.s80_session.specs.declared.end.SessionEnd.TheVariants as ends
use Rattle.s80_session.specs.declared.session.Session.{Session}
use Rattle.s80_session.specs.Ending.{IsFlushEnd}
use Rattle.s80_session.specs.Session.{budget_of, keeper_of, last_run_of, HasRun, IsEvaluation, IsRunFor, IsSomeRun, RunAfter, RunAfterText, RunAfterWork, RunSince}
use Rattle.s80_session.specs.Working.{Evaluates}
use Rattle.s80_session.proofs.Stepping.{IsStaying}

-- ---- the last run

-- a doIt that was evaluated
pub ran_last : (before mid now : Session) (text : List ℕ) (reply : Reply) → Fits text → IsEvaluatedText text → Evaluates {E = Unit {0}} (Ok reply) mid now text → now ≡ record mid { last_run = last_run_of now; held = now.held } → RunAfterText (Ok reply) (Chunk (items.Plain text)) before now
ran_last before mid now text reply fits none (ran, given, run, evaluated, reply_is, last) rest =
    let P : Session → Type 0 = λ s. AreGiven (keeper_of s).system × IsRunOf (keeper_of s).system text (budget_of s) ran in
    let both = subst P (sym rest) (given, run) in
    inr (subst IsEvaluation (sym reply_is) tt, (fits, none, both.0, ran, both.1, last))

-- nothing was evaluated
pub run_stays : (result : Result Reply SessionEnd) (item : SessionItem) (before now : Session) → last_run_of now ≡ last_run_of before → RunAfterText result item before now
run_stays (Ok reply) item before now same = inl same
run_stays (Err end) item before now same = same

-- a reply is an item's answer
pub run_answered : (item : SessionItem) (before now : Session) (reply : Reply) (answer : Answer) → IsStaying reply answer → RunAfterText (Ok reply) item before now → RunAfterWork (Ok answer) item before now
run_answered item before now reply answer is (inl same) = inl same
run_answered item before now reply answer is (inr (evaluation, has)) = inr (subst IsEvaluation (sym (ap (λ (a : Answer). a.reply) is)) evaluation, has)

-- with the same classes, methods and budget
pub run_kept : (item : SessionItem) (before mid now : Session) → (keeper_of now).system ≡ (keeper_of mid).system → budget_of now ≡ budget_of mid → last_run_of now ≡ last_run_of mid → (last_run_of mid ≡ last_run_of before) ⊎ HasRun item mid → (last_run_of now ≡ last_run_of before) ⊎ HasRun item now
run_kept item before mid now system budget last (inl same) = inl (last ∙ same)
run_kept item before mid now system budget last (inr has) =
    let by_system = subst (λ s. IsRunFor item s (budget_of mid) (last_run_of mid)) (sym system) has in
    let by_budget = subst (λ b. IsRunFor item (keeper_of now).system b (last_run_of mid)) (sym budget) by_system in
    inr (subst (λ l. IsRunFor item (keeper_of now).system (budget_of now) l) (sym last) by_budget)

-- work that breaks off
pub broken_run : (T : Type 0) (end : SessionEnd) (item : SessionItem) (before now : Session) → last_run_of now ≡ last_run_of before → RunAfter {T = T} (Err end) item before now
broken_run T ends.Memory item before now same = same
broken_run T (ends.Read failed) item before now same = same
broken_run T (ends.Write failed) item before now same = inl same
broken_run T (ends.Disk failed) item before now same = inl same
broken_run T (ends.Damaged damage) item before now same = same
broken_run T ends.TooLong item before now same = same

-- a flush behind it
pub run_flushed : (r : Result (Unit {0}) SessionEnd) (item : SessionItem) (before mid now : Session) → IfErr r IsFlushEnd → (keeper_of now).system ≡ (keeper_of mid).system → budget_of now ≡ budget_of mid → last_run_of now ≡ last_run_of mid → RunAfter {T = Unit {0}} (Ok tt) item before mid → RunAfter r item before now
run_flushed (Ok done) item before mid now is system budget last h = run_kept item before mid now system budget last h
run_flushed (Err (ends.Disk failed)) item before mid now is system budget last h = run_kept item before mid now system budget last h
run_flushed (Err (ends.Write failed)) item before mid now is system budget last h = run_kept item before mid now system budget last h
run_flushed (Err ends.Memory) item before mid now is system budget last h = absurd is
run_flushed (Err (ends.Read failed)) item before mid now is system budget last h = absurd is
run_flushed (Err (ends.Damaged damage)) item before mid now is system budget last h = absurd is
run_flushed (Err ends.TooLong) item before mid now is system budget last h = absurd is

-- ---- the runs of many items

some_run : (item : SessionItem) (system : SystemState) (budget : ℕ) (last : Option RanValue) → IsRunFor item system budget last → IsSomeRun budget last
some_run (Chunk (items.Plain text)) system budget last (fits, none, given, ran, run, is) = record { text = text; system = system; given = given; ran = ran; run = run; is = is }
some_run (Chunk (items.Head text)) system budget last h = absurd h
some_run (Chunk (items.Method text)) system budget last h = absurd h
some_run (Chunk items.SectionEnd) system budget last h = absurd h
some_run (Chunk (items.TooLong role length)) system budget last h = absurd h
some_run Unended system budget last h = absurd h
some_run (Query query) system budget last h = absurd h

either_run : (T : Type 0) (r : Result T SessionEnd) (item : SessionItem) (before now : Session) → RunAfter r item before now → (last_run_of now ≡ last_run_of before) ⊎ HasRun item now
either_run T (Ok done) item before now h = h
either_run T (Err ends.Memory) item before now h = inl h
either_run T (Err (ends.Read failed)) item before now h = inl h
either_run T (Err (ends.Write failed)) item before now h = h
either_run T (Err (ends.Disk failed)) item before now h = h
either_run T (Err (ends.Damaged damage)) item before now h = inl h
either_run T (Err ends.TooLong) item before now h = inl h

-- no item
pub no_run : (session : Session) → RunSince session session
no_run session = record { budget = refl; last_run = inl refl }

-- those of two stretches
pub both_runs : (before mid now : Session) → RunSince before mid → RunSince mid now → RunSince before now
both_runs before mid now h k = record { budget = k.budget ∙ h.budget; last_run = by_last k.last_run }
  where
    by_first : last_run_of now ≡ last_run_of mid → (last_run_of mid ≡ last_run_of before) ⊎ IsSomeRun (budget_of before) (last_run_of mid) → (last_run_of now ≡ last_run_of before) ⊎ IsSomeRun (budget_of before) (last_run_of now)
    by_first same (inl first) = inl (same ∙ first)
    by_first same (inr some) = inr (let P : Option RanValue → Type 0 = λ o. IsSomeRun (budget_of before) o in subst P (sym same) some)

    by_last : (last_run_of now ≡ last_run_of mid) ⊎ IsSomeRun (budget_of mid) (last_run_of now) → (last_run_of now ≡ last_run_of before) ⊎ IsSomeRun (budget_of before) (last_run_of now)
    by_last (inl same) = by_first same h.last_run
    by_last (inr some) = inr (let P : ℕ → Type 0 = λ b. IsSomeRun b (last_run_of now) in subst P h.budget some)

-- and of one item
pub run_of_item : (T : Type 0) (r : Result T SessionEnd) (item : SessionItem) (before now : Session) → budget_of now ≡ budget_of before → RunAfter r item before now → RunSince before now
run_of_item T r item before now budget h = record { budget = budget; last_run = by_either (either_run T r item before now h) }
  where
    by_either : (last_run_of now ≡ last_run_of before) ⊎ HasRun item now → (last_run_of now ≡ last_run_of before) ⊎ IsSomeRun (budget_of before) (last_run_of now)
    by_either (inl same) = inl same
    by_either (inr has) = inr (let P : ℕ → Type 0 = λ b. IsSomeRun b (last_run_of now) in subst P budget (some_run item (keeper_of now).system (budget_of now) (last_run_of now) has))
