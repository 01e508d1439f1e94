-- What a doIt of a list asks when its text is worked again.
use Rattle.std.proofs.Common.{◌≡◌, inl, inr, ℕ, Bool, List, [], ◌∷◌, ◌++◌, Some, None, Result, Ok, sym, ap, subst, ◌∙◌}
use Rattle.s80_syntax.proofs.lemmas.OneReading.{one_doit_of}
use Rattle.s80_chunk.specs.declared.item.Item.TheVariants as items
use Rattle.s80_form.specs.declared.refusal.Refusal.{Refusal}
use Rattle.s80_form.specs.Form.{IsEvaluatedText}
use Rattle.s80_change.specs.declared.change.Change.{Change}
use Rattle.s80_change.specs.declared.change.Change.TheVariants.{Form, Method, DoIt}
use Rattle.s80_change.specs.Check.{as_method, size_refusal}
use Rattle.s80_apply.specs.List.{add}
use Rattle.s80_doit.specs.DoIt.{Fits}
use Rattle.s80_model.specs.declared.item.SessionItem.{SessionItem}
use Rattle.s80_model.specs.declared.item.SessionItem.TheVariants.{Chunk}
use Rattle.s80_model.specs.Asked.{Ask, refuses, adds, evaluates, condenses, opens, refuses_head, adds_source, refuses_source, closes, tells, files, seeks, AsksPlain, IsRefusedText}
use Rattle.s80_model.specs.Replies.{AllAsk, Work, list_after_all, list_or, work_after}
use Rattle.s80_model.proofs.Asking.{no_refusal}
use Rattle.s80_filing.specs.Filing.{AllTaken, IsTaken, LeadsTo}
use Rattle.s80_filing.proofs.FiledIn.{grown}

-- whatever the text asks is that it be evaluated
abbrev pub IsEvaluated : List ℕ → Type 0
IsEvaluated text = (ask : Ask) → AsksPlain text ask → (told : List ℕ) × (stopped : Bool) × (ask ≡ evaluates text told stopped)

-- a text that fits isn't refused
not_refused : (text : List ℕ) (refusal : Refusal) → Fits text → IsRefusedText text refusal → ⊥
not_refused text refusal (tree, is, size) (inl h) = no_refusal text tree refusal is h
not_refused text refusal (tree, is, size) (inr (again, also, refused)) =
    let same : None ≡ Some refusal = sym size ∙ ap (λ t. size_refusal (as_method t)) (one_doit_of text tree again is also) ∙ refused in
    cc same

-- so it is evaluated where it has none of the forms
pub is_evaluated : (text : List ℕ) → Fits text → IsEvaluatedText text → IsEvaluated text
is_evaluated text fits asked (refuses refusal) is = absurd (not_refused text refusal fits is)
is_evaluated text fits asked (adds (Form form)) is = absurd (asked.none.form form is.1)
is_evaluated text fits asked (adds (Method m)) is = absurd is.1
is_evaluated text fits asked (adds (DoIt own)) is = absurd (asked.none.snapshot is.1.0)
is_evaluated text fits asked (evaluates own told stopped) is = (told, stopped, ap (λ t. evaluates t told stopped) is.1)
is_evaluated text fits asked condenses is = absurd (asked.condensing is.1)
is_evaluated text fits asked (opens head) is = absurd is
is_evaluated text fits asked (refuses_head refusal) is = absurd is
is_evaluated text fits asked (adds_source source) is = absurd is
is_evaluated text fits asked (refuses_source refusal) is = absurd is
is_evaluated text fits asked closes is = absurd is
is_evaluated text fits asked (tells query) is = absurd is
is_evaluated text fits asked (files filed moment) is = absurd is
is_evaluated text fits asked (seeks query lines) is = absurd is

-- and the list has it behind it, whatever it is told
pub adds_doit : (work : Work) (rest : List SessionItem) (text : List ℕ) (list : List Change) → IsEvaluated text → add work.changes (DoIt text) ≡ Ok (work.changes ++ DoIt text ∷ []) → LeadsTo (grown work (DoIt text)) rest list → LeadsTo work (Chunk (items.Plain text) ∷ rest) list
adds_doit work rest text list evaluated added next [] all = absurd all
adds_doit work rest text list evaluated added next (ask ∷ asks) all =
    let is = evaluated ask all.0.0 in
    let P : Ask → Type 0 = λ a. AllAsk (work_after work a) rest asks in
    let Q : Result (List Change) Refusal → Type 0 = λ r. AllAsk (record work { changes = list_or r work.changes }) rest asks in
    let R : Result (List Change) Refusal → Type 0 = λ r. AllTaken (record work { changes = list_or r work.changes }) asks in
    let S : Ask → Type 0 = λ a. IsTaken work a × AllTaken (work_after work a) asks in
    let behind = next asks (subst Q added (subst P is.2 all.1)) in
    let list_is = ap (λ a. list_after_all (work_after work a) asks) is.2 ∙ ap (λ r. list_after_all (record work { changes = list_or r work.changes }) asks) added ∙ behind.0 in
    (list_is, subst S (sym is.2) (tt, subst R (sym added) behind.1))
