-- What items ask, one by one.
use Rattle.std.proofs.Common.{All, ◌≡◌, ◌≢◌, ◌⊎◌, inl, inr, ℕ, Bool, List, [], ◌∷◌, Option, Some, None, Result, Ok, Err, refl, sym, ap, subst, ◌∙◌}
use Rattle.std.proofs.lemmas.List.Elements.{All-head, All-tail}
use Rattle.s80_chunk.specs.declared.item.Item.TheVariants as items
use Rattle.s80_tree.specs.Tree.{DoItParts}
use Rattle.s80_syntax.specs.Faults.{IsDoItText}
use Rattle.s80_syntax.specs.Text.{IsDoItOf}
use Rattle.s80_syntax.proofs.lemmas.OneReading.{one_doit_of, doit_only_memory}
use Rattle.s80_change.specs.declared.change.Change.{Change}
use Rattle.s80_change.specs.declared.change.Change.TheVariants.{Form, Method, DoIt}
use Rattle.s80_form.specs.declared.refusal.Refusal.{Refusal}
use Rattle.s80_form.specs.declared.refusal.Refusal.TheVariants as refusals
use Rattle.s80_change.specs.declared.head.SectionHead.{SectionHead}
use Rattle.s80_change.specs.Check.{IsCheckOf, IsSyntaxRefusal, as_method, size_refusal, fault_of}
use Rattle.s80_change.specs.Head.{IsHeadOf}
use Rattle.s80_change.proofs.Checking.{one_refusal, check_same}
use Rattle.s80_change.proofs.Heads.{one_head_of}
use Rattle.s80_syntax.specs.declared.fault.ParseFault.TheVariants as faults
use Rattle.s80_form.specs.declared.refusal.SyntaxKind.{SyntaxKind}
use Rattle.s80_form.specs.declared.refusal.SyntaxKind.TheVariants as kinds
use Rattle.s80_fileout.specs.Moment.{IsMoment}
use Rattle.s80_model.specs.declared.item.Filed.{Filed}
use Rattle.s80_model.specs.declared.item.Query.{Query as SessionQuery}
use Rattle.s80_model.specs.declared.item.Query.TheVariants as queries
use Rattle.s80_model.specs.declared.item.SessionItem.{SessionItem}
use Rattle.s80_model.specs.declared.item.SessionItem.TheVariants.{Chunk, Unended, Query}
use Rattle.s80_form.specs.declared.form.Form.{Form as FormOfDoIt}
use Rattle.s80_form.specs.declared.form.Recognised.TheVariants as recognised
use Rattle.s80_form.specs.Form.{IsCondensing, IsCondensingText, IsEvaluatedText, IsFormText, IsSnapshot, IsSnapshotText}
use Rattle.s80_form.specs.Name.{IsName, IsSelectorWord}
use Rattle.s80_form.proofs.lemmas.OneForm.{form_of_text_same, has_same}
use Rattle.s80_apply.specs.List.{add, state_of}
use Rattle.s80_doit.specs.Answer.{EvaluatesTo}
use Rattle.s80_doit.specs.DoIt.{Fits}
use Rattle.s80_model.specs.Asked.{Ask, refuses, adds, evaluates, condenses, opens, refuses_head, adds_source, refuses_source, closes, tells, files, seeks, IsRefusedText, AsksPlain, IsRefusedHead, AsksHead, AsksMethod, IsKeptAs, AsksQuery, IsTimed}
use Rattle.s80_model.specs.Replies.{AllAsk, AsksIn, IsEvaluated, IsSo, Work, work_after}
use Rattle.s80_model.specs.Settings.{IsNow, Settings}
use Rattle.s80_model.proofs.Seeking.{one_asked_of, one_sought}

-- in the state of a list a text is told one thing
abbrev pub OneTold : Type 0
OneTold = (changes : List Change) (text : List ℕ) (budget : ℕ) (told other : List ℕ) (stopped also : Bool) → EvaluatesTo (state_of changes) text budget told stopped → EvaluatesTo (state_of changes) text budget other also → (other ≡ told) × (also ≡ stopped)

-- no fault of a text is want of memory
pub not_memory : (kind : SyntaxKind) (place : ℕ) → fault_of kind place ≡ faults.Memory → ⊥
not_memory kinds.UnendedToken place e = cc e
not_memory kinds.BadByte place e = cc e
not_memory kinds.BadNumber place e = cc e
not_memory kinds.Unexpected place e = cc e
not_memory kinds.NotAssignable place e = cc e
not_memory kinds.Nested place e = cc e

-- a text with a tree has no fault
pub no_refusal : (text : List ℕ) (tree : DoItParts) (refusal : Refusal) → IsDoItOf text tree → IsSyntaxRefusal IsDoItText text refusal → ⊥
no_refusal text tree (refusals.Syntax kind place) is h = not_memory kind place (doit_only_memory text tree (fault_of kind place) is h)
no_refusal text tree refusals.Unended is h = h
no_refusal text tree (refusals.TooLarge _ _) is h = h
no_refusal text tree (refusals.UnknownClass _) is h = h
no_refusal text tree (refusals.KernelClass _) is h = h
no_refusal text tree (refusals.HasSubclasses _) is h = h
no_refusal text tree (refusals.Cycle _) is h = h
no_refusal text tree (refusals.Duplicate _) is h = h
no_refusal text tree (refusals.BadName _) is h = h
no_refusal text tree (refusals.NoSelector _ _ _) is h = h
no_refusal text tree (refusals.TooMany _ _) is h = h
no_refusal text tree (refusals.LogFull _) is h = h
no_refusal text tree (refusals.NoSection _) is h = h

-- a text is refused for one reason
one_reason : (text : List ℕ) (one other : Refusal) → IsRefusedText text one → IsRefusedText text other → one ≡ other
one_reason text one other (inl h) (inl k) = one_refusal IsDoItText text one other h k
one_reason text one other (inl h) (inr (tree, is, size)) = absurd (no_refusal text tree one is h)
one_reason text one other (inr (tree, is, size)) (inl k) = absurd (no_refusal text tree other is k)
one_reason text one other (inr (tree, is, size)) (inr (again, also, other_size)) =
    let same = sym size ∙ ap (λ t. size_refusal (as_method t)) (one_doit_of text tree again is also) ∙ other_size in
    cc same

-- and none that fits is refused
fits_only : (text : List ℕ) (refusal : Refusal) → Fits text → IsRefusedText text refusal → ⊥
fits_only text refusal (tree, is, size) (inl h) = no_refusal text tree refusal is h
fits_only text refusal (tree, is, size) (inr (again, also, other_size)) =
    let same = sym size ∙ ap (λ t. size_refusal (as_method t)) (one_doit_of text tree again is also) ∙ other_size in
    cc same

-- a text that asks for a snapshot has none of the forms that are kept
no_form : (text : List ℕ) (form : FormOfDoIt) → IsSnapshotText text → IsFormText text form → ⊥
no_form text form is also =
    let asks : IsSnapshot also.tree = subst IsSnapshot (one_doit_of text is.tree also.tree is.tree_is also.tree_is) is.snapshot in
    let same : recognised.Snapshot ≡ recognised.Form form = has_same also.tree recognised.Snapshot (recognised.Form form) asks also.form_is.0 in
    cc same

-- a text is kept as one change
one_change : (text : List ℕ) (one other : Change) → IsKeptAs text one → IsKeptAs text other → one ≡ other
one_change text (Form form) (Form other) h k = ap Form (form_of_text_same text form other h k)
one_change text (Form form) (DoIt own) h k = absurd (no_form text form k.0 h)
one_change text (DoIt own) (Form form) h k = absurd (no_form text form h.0 k)
one_change text (DoIt own) (DoIt other) h k = ap DoIt (h.1 ∙ sym k.1)
one_change text (Method m) other h k = absurd h
one_change text (Form form) (Method m) h k = absurd k
one_change text (DoIt own) (Method m) h k = absurd k

-- a text that is told something is kept as none
no_doit : (text : List ℕ) (change : Change) → IsKeptAs text change → IsEvaluatedText text → {X : Type 0} → X
no_doit text (Form form) h k = absurd (k.none.form form h)
no_doit text (Method m) h k = absurd h
no_doit text (DoIt own) h k = absurd (k.none.snapshot h.0)

-- nor is one that asks to condense
no_change : (text : List ℕ) (change : Change) → IsKeptAs text change → IsCondensingText text → {X : Type 0} → X
no_change text (Form form) h k =
    let asks : IsCondensing h.tree = subst IsCondensing (one_doit_of text k.tree h.tree k.tree_is h.tree_is) k.condensing in
    let same : recognised.Condense ≡ recognised.Form form = has_same h.tree recognised.Condense (recognised.Form form) asks h.form_is.0 in
    cc same
no_change text (Method m) h k = absurd h
no_change text (DoIt own) h k =
    let asks : IsCondensing h.0.tree = subst IsCondensing (one_doit_of text k.tree h.0.tree k.tree_is h.0.tree_is) k.condensing in
    let same : recognised.Condense ≡ recognised.Snapshot = has_same h.0.tree recognised.Condense recognised.Snapshot asks h.0.snapshot in
    cc same

-- what is told of a doIt is one thing, whether it is added or refused
told_so : OneTold → (r : Result (List Change) Refusal) (text : List ℕ) (settings : Settings) (told other : List ℕ) (stopped also : Bool) → IsEvaluated r text settings told stopped → IsEvaluated r text settings other also → (other ≡ told) × (also ≡ stopped)
told_so one (Ok changes) text settings told other stopped also h k = one changes text settings.budget told other stopped also h k
told_so one (Err refusal) text settings told other stopped also h k = (k.0 ∙ sym h.0, k.1 ∙ sym h.1)

evaluates_so : OneTold → (work : Work) (text own other : List ℕ) (told more : List ℕ) (stopped also : Bool) → own ≡ text → other ≡ text → IsSo work (evaluates own told stopped) → IsSo work (evaluates other more also) → evaluates other more also ≡ evaluates own told stopped
evaluates_so one work text own other told more stopped also is too h k =
    let P : List ℕ → Type 0 = λ t. IsSo work (evaluates t told stopped) in
    let Q : List ℕ → Type 0 = λ t. IsSo work (evaluates t more also) in
    let same = told_so one (add work.changes (DoIt text)) text work.settings told more stopped also (subst P is h) (subst Q too k) in
    λ i. evaluates ((too ∙ sym is) i) (same.0 i) (same.1 i)

-- a plain text asks one thing
one_plain : OneTold → (work : Work) (text : List ℕ) (ask other : Ask) → AsksPlain text ask → IsSo work ask → AsksPlain text other → IsSo work other → other ≡ ask
one_plain one work text (refuses refusal) (refuses again) h so k also = ap refuses (one_reason text again refusal k h)
one_plain one work text (refuses refusal) (adds change) h so k also = absurd (fits_only text refusal k.0 h)
one_plain one work text (refuses refusal) (evaluates own told stopped) h so k also = absurd (fits_only text refusal k.0 h)
one_plain one work text (refuses refusal) condenses h so k also = absurd (fits_only text refusal k.0 h)
one_plain one work text (adds change) (refuses refusal) h so k also = absurd (fits_only text refusal h.0 k)
one_plain one work text (adds change) (adds again) h so k also = ap adds (one_change text again change k.1 h.1)
one_plain one work text (adds change) (evaluates own told stopped) h so k also = no_doit text change h.1 k.2
one_plain one work text (adds change) condenses h so k also = no_change text change h.1 k.1
one_plain one work text (evaluates own told stopped) (refuses refusal) h so k also = absurd (fits_only text refusal h.0 k)
one_plain one work text (evaluates own told stopped) (adds change) h so k also = no_doit text change k.1 h.2
one_plain one work text (evaluates own told stopped) (evaluates again more too) h so k also = evaluates_so one work text own again told more stopped too h.1 k.1 so also
one_plain one work text (evaluates own told stopped) condenses h so k also = absurd (h.2.condensing k.1)
one_plain one work text condenses (refuses refusal) h so k also = absurd (fits_only text refusal h.0 k)
one_plain one work text condenses (adds change) h so k also = no_change text change k.1 h.1
one_plain one work text condenses (evaluates own told stopped) h so k also = absurd (k.2.condensing h.1)
one_plain one work text condenses condenses h so k also = refl
one_plain one work text condenses (opens head) h so k also = absurd k
one_plain one work text condenses (refuses_head refusal) h so k also = absurd k
one_plain one work text condenses (adds_source source) h so k also = absurd k
one_plain one work text condenses (refuses_source refusal) h so k also = absurd k
one_plain one work text condenses closes h so k also = absurd k
one_plain one work text condenses (tells query) h so k also = absurd k
one_plain one work text condenses (files filed moment) h so k also = absurd k
one_plain one work text condenses (seeks query lines) h so k also = absurd k
one_plain one work text (opens head) other h so k also = absurd h
one_plain one work text (refuses_head refusal) other h so k also = absurd h
one_plain one work text (adds_source source) other h so k also = absurd h
one_plain one work text (refuses_source refusal) other h so k also = absurd h
one_plain one work text closes other h so k also = absurd h
one_plain one work text (tells query) other h so k also = absurd h
one_plain one work text (files filed moment) other h so k also = absurd h
one_plain one work text (seeks query lines) other h so k also = absurd h
one_plain one work text (refuses reason) (opens head) h so k also = absurd k
one_plain one work text (refuses reason) (refuses_head refusal) h so k also = absurd k
one_plain one work text (refuses reason) (adds_source source) h so k also = absurd k
one_plain one work text (refuses reason) (refuses_source refusal) h so k also = absurd k
one_plain one work text (refuses reason) closes h so k also = absurd k
one_plain one work text (refuses reason) (tells query) h so k also = absurd k
one_plain one work text (refuses reason) (files filed moment) h so k also = absurd k
one_plain one work text (refuses reason) (seeks query lines) h so k also = absurd k
one_plain one work text (adds change) (opens head) h so k also = absurd k
one_plain one work text (adds change) (refuses_head refusal) h so k also = absurd k
one_plain one work text (adds change) (adds_source source) h so k also = absurd k
one_plain one work text (adds change) (refuses_source refusal) h so k also = absurd k
one_plain one work text (adds change) closes h so k also = absurd k
one_plain one work text (adds change) (tells query) h so k also = absurd k
one_plain one work text (adds change) (files filed moment) h so k also = absurd k
one_plain one work text (adds change) (seeks query lines) h so k also = absurd k
one_plain one work text (evaluates own told stopped) (opens head) h so k also = absurd k
one_plain one work text (evaluates own told stopped) (refuses_head refusal) h so k also = absurd k
one_plain one work text (evaluates own told stopped) (adds_source source) h so k also = absurd k
one_plain one work text (evaluates own told stopped) (refuses_source refusal) h so k also = absurd k
one_plain one work text (evaluates own told stopped) closes h so k also = absurd k
one_plain one work text (evaluates own told stopped) (tells query) h so k also = absurd k
one_plain one work text (evaluates own told stopped) (files filed moment) h so k also = absurd k
one_plain one work text (evaluates own told stopped) (seeks query lines) h so k also = absurd k

-- ---- heads

-- a head that is refused by itself is no doIt, or no head
abbrev HeadFault : List ℕ → Refusal → Type 0
HeadFault text refusal = IsSyntaxRefusal IsDoItText text refusal ⊎ ((refusal ≡ refusals.NoSection text) × ((tree : DoItParts) × IsDoItOf text tree) × ((head : SectionHead) → IsHeadOf text head → ⊥))

head_fault : (text : List ℕ) (refusal : Refusal) → IsRefusedHead text refusal → HeadFault text refusal
head_fault text (refusals.NoSection own) h = inr (ap refusals.NoSection h.0, h.1, h.2)
head_fault text (refusals.Syntax kind place) h = inl h
head_fault text refusals.Unended h = absurd h
head_fault text (refusals.TooLarge _ _) h = absurd h
head_fault text (refusals.UnknownClass _) h = absurd h
head_fault text (refusals.KernelClass _) h = absurd h
head_fault text (refusals.HasSubclasses _) h = absurd h
head_fault text (refusals.Cycle _) h = absurd h
head_fault text (refusals.Duplicate _) h = absurd h
head_fault text (refusals.BadName _) h = absurd h
head_fault text (refusals.NoSelector _ _ _) h = absurd h
head_fault text (refusals.TooMany _ _) h = absurd h
head_fault text (refusals.LogFull _) h = absurd h

same_fault : (text : List ℕ) (one other : Refusal) → HeadFault text one → HeadFault text other → one ≡ other
same_fault text one other (inl h) (inl k) = one_refusal IsDoItText text one other h k
same_fault text one other (inl h) (inr (is, tree, none)) = absurd (no_refusal text tree.0 one tree.1 h)
same_fault text one other (inr (is, tree, none)) (inl k) = absurd (no_refusal text tree.0 other tree.1 k)
same_fault text one other (inr (is, tree, none)) (inr (also, again, neither)) = is ∙ sym also

no_fault : (text : List ℕ) (head : SectionHead) (refusal : Refusal) → IsHeadOf text head → HeadFault text refusal → ⊥
no_fault text head refusal is (inl h) = no_refusal text is.tree refusal is.tree_is h
no_fault text head refusal is (inr (same, tree, none)) = none head is

one_opening : (text : List ℕ) (one other : Ask) → AsksHead text one → AsksHead text other → one ≡ other
one_opening text (opens head) (opens other) h k = ap opens (one_head_of text head other h k)
one_opening text (opens head) (refuses_head refusal) h k = absurd (no_fault text head refusal h (head_fault text refusal k))
one_opening text (refuses_head refusal) (opens head) h k = absurd (no_fault text head refusal k (head_fault text refusal h))
one_opening text (refuses_head refusal) (refuses_head other) h k = ap refuses_head (same_fault text refusal other (head_fault text refusal h) (head_fault text other k))
one_opening text (opens head) (refuses refusal) h k = absurd k
one_opening text (opens head) (adds change) h k = absurd k
one_opening text (opens head) (evaluates own told stopped) h k = absurd k
one_opening text (opens head) condenses h k = absurd k
one_opening text (opens head) (adds_source source) h k = absurd k
one_opening text (opens head) (refuses_source other) h k = absurd k
one_opening text (opens head) closes h k = absurd k
one_opening text (opens head) (tells query) h k = absurd k
one_opening text (opens head) (files filed moment) h k = absurd k
one_opening text (opens head) (seeks query lines) h k = absurd k
one_opening text (refuses_head refusal) (refuses other) h k = absurd k
one_opening text (refuses_head refusal) (adds change) h k = absurd k
one_opening text (refuses_head refusal) (evaluates own told stopped) h k = absurd k
one_opening text (refuses_head refusal) condenses h k = absurd k
one_opening text (refuses_head refusal) (adds_source source) h k = absurd k
one_opening text (refuses_head refusal) (refuses_source other) h k = absurd k
one_opening text (refuses_head refusal) closes h k = absurd k
one_opening text (refuses_head refusal) (tells query) h k = absurd k
one_opening text (refuses_head refusal) (files filed moment) h k = absurd k
one_opening text (refuses_head refusal) (seeks query lines) h k = absurd k
one_opening text (refuses refusal) other h k = absurd h
one_opening text (adds change) other h k = absurd h
one_opening text (evaluates own told stopped) other h k = absurd h
one_opening text condenses other h k = absurd h
one_opening text (adds_source source) other h k = absurd h
one_opening text (refuses_source refusal) other h k = absurd h
one_opening text closes other h k = absurd h
one_opening text (tells query) other h k = absurd h
one_opening text (files filed moment) other h k = absurd h
one_opening text (seeks query lines) other h k = absurd h

-- ---- methods

-- a method asks to add its source
method_asks : (text : List ℕ) (ask : Ask) → AsksMethod text ask → (selector : Result (List ℕ) Refusal) × (ask ≡ adds_source (record { text = text; selector = selector })) × IsCheckOf text selector
method_asks text (adds_source source) h = (source.selector, ap (λ t. adds_source (record { text = t; selector = source.selector })) h.0, h.1)
method_asks text (refuses refusal) h = absurd h
method_asks text (adds change) h = absurd h
method_asks text (evaluates own told stopped) h = absurd h
method_asks text condenses h = absurd h
method_asks text (opens head) h = absurd h
method_asks text (refuses_head refusal) h = absurd h
method_asks text (refuses_source refusal) h = absurd h
method_asks text closes h = absurd h
method_asks text (tells query) h = absurd h
method_asks text (files filed moment) h = absurd h
method_asks text (seeks query lines) h = absurd h

one_source : (text : List ℕ) (one other : Ask) → AsksMethod text one → AsksMethod text other → one ≡ other
one_source text one other h k =
    let a = method_asks text one h in
    let b = method_asks text other k in
    a.1 ∙ ap (λ s. adds_source (record { text = text; selector = s })) (check_same text a.0 b.0 a.2 b.2) ∙ sym b.1

-- ---- queries

-- a second has one moment
abbrev pub OneMoment : Type 0
OneMoment = (seconds : ℕ) (one other : List ℕ) → IsMoment seconds one → IsMoment seconds other → other ≡ one

one_now : OneMoment → (clock : Option ℕ) (moment other : List ℕ) → (clock ≢ None) → IsNow clock moment → IsNow clock other → other ≡ moment
one_now one None moment other told h k = absurd (told refl)
one_now one (Some seconds) moment other told h k = one seconds moment other h k

one_file : OneMoment → (work : Work) (filed : Filed) (ask other : Ask) → (work.settings.moment ≢ None) → AsksQuery (queries.FileOut filed) ask → IsSo work ask → AsksQuery (queries.FileOut filed) other → IsSo work other → other ≡ ask
one_file one work filed ask other timed (moment, is) so (again, also) now =
    let same = one_now one work.settings.moment moment again timed (subst (IsSo work) is so) (subst (IsSo work) also now) in
    also ∙ ap (files filed) same ∙ sym is

one_query : OneMoment → (work : Work) (query : SessionQuery) (ask other : Ask) → IsTimed work.settings (Query query) → AsksQuery query ask → IsSo work ask → AsksQuery query other → IsSo work other → other ≡ ask
one_query one work queries.Recover ask other timed h so k also = k ∙ sym h
one_query one work queries.Classes ask other timed h so k also = k ∙ sym h
one_query one work (queries.Browse name) ask other timed h so k also = k ∙ sym h
one_query one work (queries.Source spec selector) ask other timed h so k also = k ∙ sym h
one_query one work (queries.Versions spec selector) ask other timed h so k also = k ∙ sym h
one_query one work queries.Changes ask other timed h so k also = k ∙ sym h
one_query one work (queries.FileOut filed) ask other timed h so k also = one_file one work filed ask other timed h so k also
one_query one work (queries.Senders selector) ask other timed h so k also = one_asked_of IsSelectorWord selector work (queries.Senders selector) ask other h so k also
one_query one work (queries.Implementors selector) ask other timed h so k also = one_asked_of IsSelectorWord selector work (queries.Implementors selector) ask other h so k also
one_query one work (queries.References name) ask other timed h so k also = one_asked_of IsName name work (queries.References name) ask other h so k also
one_query one work queries.Undeclared ask other timed h so k also = one_sought work queries.Undeclared ask other h so k also
one_query one work queries.Unimplemented ask other timed h so k also = one_sought work queries.Unimplemented ask other h so k also
one_query one work queries.Unsent ask other timed h so k also = one_sought work queries.Unsent ask other h so k also
one_query one work queries.Snapshot ask other timed h so k also = k ∙ sym h
one_query one work queries.Condense ask other timed h so k also = k ∙ sym h

-- ---- items

-- an item asks one thing
pub one_ask : OneTold → OneMoment → (work : Work) (item : SessionItem) (ask other : Ask) → IsTimed work.settings item → AsksIn work item ask → AsksIn work item other → other ≡ ask
one_ask one moments work (Chunk (items.Plain text)) ask other timed h k = one_plain one work text ask other h.0 h.1 k.0 k.1
one_ask one moments work (Chunk (items.Head text)) ask other timed h k = one_opening text other ask k.0 h.0
one_ask one moments work (Chunk (items.Method text)) ask other timed h k = one_source text other ask k.0 h.0
one_ask one moments work (Chunk items.SectionEnd) ask other timed h k = k.0 ∙ sym h.0
one_ask one moments work (Chunk (items.TooLong role n)) ask other timed h k = k.0 ∙ sym h.0
one_ask one moments work Unended ask other timed h k = k.0 ∙ sym h.0
one_ask one moments work (Query query) ask other timed h k = one_query moments work query ask other timed h.0 h.1 k.0 k.1

-- what is asked changes no setting
settings_stay : (work : Work) (ask : Ask) → (work_after work ask).settings ≡ work.settings
settings_stay work (refuses refusal) = refl
settings_stay work (adds change) = refl
settings_stay work (evaluates text told stopped) = refl
settings_stay work condenses = refl
settings_stay work (opens head) = refl
settings_stay work (refuses_head refusal) = refl
settings_stay work (adds_source source) = refl
settings_stay work (refuses_source refusal) = refl
settings_stay work closes = refl
settings_stay work (tells query) = refl
settings_stay work (files filed moment) = refl
settings_stay work (seeks query lines) = refl

-- so do items one after another
pub all_ask_once : OneTold → OneMoment → (work : Work) (items : List SessionItem) (asks others : List Ask) → All (IsTimed work.settings) items → AllAsk work items asks → AllAsk work items others → others ≡ asks
all_ask_once one moments work [] [] [] timed h k = refl
all_ask_once one moments work [] [] (ask ∷ others) timed h k = absurd k
all_ask_once one moments work [] (ask ∷ asks) others timed h k = absurd h
all_ask_once one moments work (item ∷ items) [] others timed h k = absurd h
all_ask_once one moments work (item ∷ items) (ask ∷ asks) [] timed h k = absurd k
all_ask_once one moments work (item ∷ items) (ask ∷ asks) (again ∷ others) timed h k =
    let same = one_ask one moments work item ask again (All-head (IsTimed work.settings) item items timed) h.0 k.0 in
    let P : Ask → Type 0 = λ a. AllAsk (work_after work a) items others in
    let Q : Settings → Type 0 = λ s. All (IsTimed s) items in
    let later = subst Q (sym (settings_stay work ask)) (All-tail (IsTimed work.settings) item items timed) in
    let rest = all_ask_once one moments (work_after work ask) items asks others later h.1 (subst P same k.1) in
    λ i. same i ∷ rest i
