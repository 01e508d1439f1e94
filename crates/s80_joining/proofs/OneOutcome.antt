-- What the items of an input come to, and what merging them comes to, is one thing.
use Rattle.std.proofs.Common.{All, ◌≡◌, ◌≢◌, ◌⊎◌, inl, inr, ◌∙◌, ℕ, refl, sym, ap, subst, List, [], ◌∷◌, None, Result, Ok, Err}
use Rattle.std.proofs.lemmas.List.Elements.{All-head, All-tail}
use Rattle.s80_chunk.specs.declared.item.Item.TheVariants as items
use Rattle.s80_syntax.proofs.lemmas.OneReading.{one_doit_of}
use Rattle.s80_change.specs.declared.change.Change.{Change}
use Rattle.s80_change.specs.declared.change.Change.TheVariants.{Form, Method, DoIt}
use Rattle.s80_change.specs.Check.{as_method, size_refusal}
use Rattle.s80_form.specs.declared.refusal.Refusal.{Refusal}
use Rattle.s80_form.specs.Form.{IsEvaluatedText}
use Rattle.s80_apply.specs.List.{AreAccepted, state_of}
use Rattle.s80_apply.specs.State.{State}
use Rattle.s80_doit.specs.DoIt.{Fits}
use Rattle.s80_merge.specs.declared.key.Key.{Key}
use Rattle.s80_merge.specs.declared.planning.MergePlan.{MergePlan}
use Rattle.s80_merge.specs.declared.planning.PlanFault.{PlanFault}
use Rattle.s80_merge.specs.declared.planning.PlanFault.TheVariants.{Memory}
use Rattle.s80_merge.specs.Merging.{AreKeys, IsConflict, IsPlan}
use Rattle.s80_model.specs.Asked.{Ask, Asks, AsksHead, AsksMethod, AsksPlain, IsKeptAs, IsRefusedText, IsTimed, refuses, adds, evaluates, condenses, opens, refuses_head, adds_source, refuses_source, closes, tells, files, seeks}
use Rattle.s80_model.specs.Replies.{AsksIn, IsSo, Work, begun}
use Rattle.s80_model.specs.declared.item.SessionItem.{SessionItem}
use Rattle.s80_model.specs.declared.item.SessionItem.TheVariants.{Chunk, Unended, Query}
use Rattle.s80_model.proofs.Asking.{no_refusal}
use Rattle.s80_joining.specs.declared.outcome.Outcome.{Outcome}
use Rattle.s80_joining.specs.declared.outcome.Outcome.TheVariants.{Refused, Conflicts, Joins}
use Rattle.s80_joining.specs.Outcome.{HasConflicts, IsOutcome}
use Rattle.s80_joining.specs.Theirs.{AreWorked, Become, IsGiven, Worked, after_ask, begun_from}
use Rattle.s80_joining.proofs.Accepted.{theirs_accepted}

-- the laws of the model keeper and of plans
abbrev pub OneAsk : Type 0
OneAsk = (work : Work) (item : SessionItem) (ask other : Ask) → IsTimed work.settings item → AsksIn work item ask → AsksIn work item other → other ≡ ask

abbrev pub OnePlan : Type 0
OnePlan = (base : State) (ours theirs : List Change) (one other : Result MergePlan PlanFault) → IsPlan base ours theirs one → IsPlan base ours theirs other → one ≢ Err Memory → other ≢ Err Memory → one ≡ other

-- some work: what an item of an input asks hangs on none, but for what a doIt is told
abbrev some_work : Work
some_work = begun (record { budget = 0; kept_versions = 0; moment = None }) []

-- ---- a text that is evaluated

fits_only : (text : List ℕ) (refusal : Refusal) → Fits text → IsRefusedText text refusal → ⊥
fits_only text refusal (tree, is, size) (inl h) = no_refusal text tree refusal is h
fits_only text refusal (tree, is, size) (inr (again, also, other_size)) =
    let same = sym size ∙ ap (λ t. size_refusal (as_method t)) (one_doit_of text tree again is also) ∙ other_size in
    cc same

not_kept : (text : List ℕ) (change : Change) → IsEvaluatedText text → IsKeptAs text change → ⊥
not_kept text (Form form) evaluated h = evaluated.none.form form h
not_kept text (Method m) evaluated h = h
not_kept text (DoIt own) evaluated h = evaluated.none.snapshot h.0

-- whatever it asks, it is passed over
all_pass : (worked : Worked) (text : List ℕ) (fits : Fits text) (evaluated : IsEvaluatedText text) (ask : Ask) → AsksPlain text ask → after_ask worked ask ≡ Ok worked
all_pass worked text fits evaluated (refuses refusal) h = absurd (fits_only text refusal fits h)
all_pass worked text fits evaluated (adds change) h = absurd (not_kept text change evaluated h.1)
all_pass worked text fits evaluated (evaluates own told stopped) h = refl
all_pass worked text fits evaluated condenses h = refl
all_pass worked text fits evaluated (opens head) h = absurd h
all_pass worked text fits evaluated (refuses_head refusal) h = absurd h
all_pass worked text fits evaluated (adds_source source) h = absurd h
all_pass worked text fits evaluated (refuses_source refusal) h = absurd h
all_pass worked text fits evaluated closes h = absurd h
all_pass worked text fits evaluated (tells query) h = absurd h
all_pass worked text fits evaluated (files filed moment) h = absurd h
all_pass worked text fits evaluated (seeks query lines) h = absurd h

-- an ask of a plain text is so in any work, or the text is evaluated
is_so_or : (text : List ℕ) (ask : Ask) → AsksPlain text ask → IsSo some_work ask ⊎ (Fits text × IsEvaluatedText text)
is_so_or text (refuses refusal) h = inl tt
is_so_or text (adds change) h = inl tt
is_so_or text (evaluates own told stopped) h = inr (h.0, h.2)
is_so_or text condenses h = inl tt
is_so_or text (opens head) h = absurd h
is_so_or text (refuses_head refusal) h = absurd h
is_so_or text (adds_source source) h = absurd h
is_so_or text (refuses_source refusal) h = absurd h
is_so_or text closes h = absurd h
is_so_or text (tells query) h = absurd h
is_so_or text (files filed moment) h = absurd h
is_so_or text (seeks query lines) h = absurd h

one_of_plain : OneAsk → (worked : Worked) (text : List ℕ) (ask other : Ask) → AsksPlain text ask → AsksPlain text other → after_ask worked ask ≡ after_ask worked other
one_of_plain one worked text ask other h k = by_both (is_so_or text ask h) (is_so_or text other k)
  where
    passed : Fits text → IsEvaluatedText text → after_ask worked ask ≡ after_ask worked other
    passed fits evaluated = all_pass worked text fits evaluated ask h ∙ sym (all_pass worked text fits evaluated other k)

    by_both : IsSo some_work ask ⊎ (Fits text × IsEvaluatedText text) → IsSo some_work other ⊎ (Fits text × IsEvaluatedText text) → after_ask worked ask ≡ after_ask worked other
    by_both (inl so) (inl also) = ap (after_ask worked) (one some_work (Chunk (items.Plain text)) other ask tt (k, also) (h, so))
    by_both (inl so) (inr (fits, evaluated)) = passed fits evaluated
    by_both (inr (fits, evaluated)) also = passed fits evaluated

-- ---- other items

head_so : (text : List ℕ) (ask : Ask) → AsksHead text ask → IsSo some_work ask
head_so text (refuses refusal) h = absurd h
head_so text (adds change) h = absurd h
head_so text (evaluates own told stopped) h = absurd h
head_so text condenses h = absurd h
head_so text (opens head) h = tt
head_so text (refuses_head refusal) h = tt
head_so text (adds_source source) h = absurd h
head_so text (refuses_source refusal) h = absurd h
head_so text closes h = absurd h
head_so text (tells query) h = absurd h
head_so text (files filed moment) h = absurd h
head_so text (seeks query lines) h = absurd h

method_so : (text : List ℕ) (ask : Ask) → AsksMethod text ask → IsSo some_work ask
method_so text (refuses refusal) h = absurd h
method_so text (adds change) h = absurd h
method_so text (evaluates own told stopped) h = absurd h
method_so text condenses h = absurd h
method_so text (opens head) h = absurd h
method_so text (refuses_head refusal) h = absurd h
method_so text (adds_source source) h = tt
method_so text (refuses_source refusal) h = absurd h
method_so text closes h = absurd h
method_so text (tells query) h = absurd h
method_so text (files filed moment) h = absurd h
method_so text (seeks query lines) h = absurd h

one_of_item : OneAsk → (worked : Worked) (item : SessionItem) (ask other : Ask) → IsGiven item → Asks item ask → Asks item other → after_ask worked ask ≡ after_ask worked other
one_of_item one worked (Chunk (items.Plain text)) ask other given h k = one_of_plain one worked text ask other h k
one_of_item one worked (Chunk (items.Head text)) ask other given h k = ap (after_ask worked) (one some_work (Chunk (items.Head text)) other ask tt (k, head_so text other k) (h, head_so text ask h))
one_of_item one worked (Chunk (items.Method text)) ask other given h k = ap (after_ask worked) (one some_work (Chunk (items.Method text)) other ask tt (k, method_so text other k) (h, method_so text ask h))
one_of_item one worked (Chunk items.SectionEnd) ask other given h k = ap (after_ask worked) (h ∙ sym k)
one_of_item one worked (Chunk (items.TooLong role n)) ask other given h k = ap (after_ask worked) (h ∙ sym k)
one_of_item one worked Unended ask other given h k = ap (after_ask worked) (h ∙ sym k)
one_of_item one worked (Query query) ask other given h k = absurd given

-- ---- items, one after another

one_become : OneAsk → (before : Result Worked Refusal) (items : List SessionItem) (now other : Result Worked Refusal) → All IsGiven items → Become before items now → Become before items other → now ≡ other
one_become one (Err refusal) items now other given h k = h ∙ sym k
one_become one (Ok worked) [] now other given h k = h ∙ sym k
one_become one (Ok worked) (item ∷ items) now other given (ask, asks, rest) (again, also, more) =
    let same = one_of_item one worked item again ask (All-head IsGiven item items given) also asks in
    one_become one (after_ask worked ask) items now other (All-tail IsGiven item items given) rest (subst (λ next. Become next items other) same more)

pub one_work : OneAsk → (state : State) (items : List SessionItem) (now other : Result Worked Refusal) → All IsGiven items → AreWorked state items now → AreWorked state items other → now ≡ other
one_work one state items now other given h k = one_become one (Ok (begun_from state)) items now other given h k

-- ---- outcomes

module _ (one : OneAsk) (sole : OnePlan) (base ours : List Change) (items : List SessionItem) (given : All IsGiven items) where
  not_both : (worked : Worked) (refusal : Refusal) → AreWorked (state_of base) items (Ok worked) → AreWorked (state_of base) items (Err refusal) → ⊥
  not_both worked refusal h k = let same = one_work one (state_of base) items (Ok worked) (Err refusal) given h k in cc same

  -- the changes are one list, and so are the keys
  same_theirs : (theirs others : List Change) (keys more : List Key) → HasConflicts base ours items theirs keys → HasConflicts base ours items others more → theirs ≡ others
  same_theirs theirs others keys more h k =
      let same = one_work one (state_of base) items (Ok h.worked) (Ok k.worked) given h.all k.all in
      let both : h.worked ≡ k.worked = cc same in
      h.theirs_are ∙ ap (λ (w : Worked). w.changes) both ∙ sym k.theirs_are

  all_accepted : (theirs : List Change) (keys : List Key) → HasConflicts base ours items theirs keys → AreAccepted (state_of base) theirs
  all_accepted theirs keys h = subst (AreAccepted (state_of base)) (sym h.theirs_are) (theirs_accepted (state_of base) items h.worked h.all).0

  one_plan_of : (theirs : List Change) (keys more : List Key) → AreAccepted (state_of base) theirs → AreKeys (IsConflict (state_of base) ours theirs) keys → AreKeys (IsConflict (state_of base) ours theirs) more → keys ≡ more
  one_plan_of theirs keys more all h k =
      let plan : MergePlan = record { conflicts = keys } in
      let other : MergePlan = record { conflicts = more } in
      let same : Ok plan ≡ Ok other = sole (state_of base) ours theirs (Ok plan) (Ok other) (all, h) (all, k) (λ e. cc e) (λ e. cc e) in
      let both : plan ≡ other = cc same in
      ap (λ (p : MergePlan). p.conflicts) both

  same_keys : (theirs others : List Change) (keys more : List Key) → HasConflicts base ours items theirs keys → HasConflicts base ours items others more → keys ≡ more
  same_keys theirs others keys more h k =
      let same = same_theirs theirs others keys more h k in
      one_plan_of theirs keys more (all_accepted theirs keys h) h.are_keys (subst (λ changes. AreKeys (IsConflict (state_of base) ours changes) more) (sym same) k.are_keys)

  pub one_outcome : (now other : Outcome) → IsOutcome base ours items now → IsOutcome base ours items other → now ≡ other
  one_outcome (Refused refusal) (Refused why) h k =
      let same = one_work one (state_of base) items (Err refusal) (Err why) given h k in
      let both : refusal ≡ why = cc same in
      ap Refused both
  one_outcome (Refused refusal) (Conflicts keys) h (theirs, k, some) = absurd (not_both k.worked refusal k.all h)
  one_outcome (Refused refusal) (Joins theirs) h k = absurd (not_both k.worked refusal k.all h)
  one_outcome (Conflicts keys) (Refused why) (theirs, h, some) k = absurd (not_both h.worked why h.all k)
  one_outcome (Conflicts keys) (Conflicts more) (theirs, h, some) (others, k, also) = ap Conflicts (same_keys theirs others keys more h k)
  one_outcome (Conflicts keys) (Joins others) (theirs, h, some) k = absurd (some (same_keys theirs others keys [] h k))
  one_outcome (Joins theirs) (Refused why) h k = absurd (not_both h.worked why h.all k)
  one_outcome (Joins theirs) (Conflicts keys) h (others, k, some) = absurd (some (same_keys others theirs keys [] k h))
  one_outcome (Joins theirs) (Joins others) h k = ap Joins (same_theirs theirs others [] [] h k)
