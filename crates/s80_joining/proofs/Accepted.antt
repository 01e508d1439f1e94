-- The changes that are worked are accepted, and so a plan refuses none of them.
use Rattle.std.proofs.Common.{◌≡◌, ◌∙◌, ℕ, Bool, true, false, cond, refl, sym, ap, subst, List, [], ◌∷◌, Option, Some, None, Result, Ok, Err}
use Rattle.std.specs.Prelude.{⊤}
use Rattle.s80_change.specs.declared.change.Change.{Change}
use Rattle.s80_change.specs.Source.{SourceParts}
use Rattle.s80_change.specs.declared.head.SectionHead.{SectionHead}
use Rattle.s80_form.specs.declared.refusal.Refusal.{Refusal}
use Rattle.s80_apply.specs.Accept.{accept, unknown_name}
use Rattle.s80_apply.specs.List.{AreAccepted, IsAccepted, state_from, state_of}
use Rattle.s80_apply.specs.State.{State}
use Rattle.s80_apply.proofs.lemmas.Lists.{accepted_more, from_more, is_accepted, is_after}
use Rattle.s80_merge.specs.declared.key.Key.{Key}
use Rattle.s80_merge.specs.declared.planning.MergePlan.{MergePlan}
use Rattle.s80_merge.specs.declared.planning.PlanFault.TheVariants.{Theirs as RefusesTheirs}
use Rattle.s80_merge.specs.Merging.{IsFirstRefused, IsPlan}
use Rattle.s80_merge.proofs.lemmas.Planned.{accepted_at}
use Rattle.s80_model.specs.Asked.{Ask, refuses, adds, evaluates, condenses, opens, refuses_head, adds_source, refuses_source, closes, tells, files, seeks}
use Rattle.s80_model.specs.Replies.{method_in}
use Rattle.s80_model.specs.declared.item.SessionItem.{SessionItem}
use Rattle.s80_model.specs.declared.section.Section.{Section}
use Rattle.s80_model.specs.declared.section.Section.TheVariants as sections
use Rattle.s80_joining.specs.declared.theirs.Theirs.{Theirs}
use Rattle.s80_joining.specs.Outcome.{HasConflicts}
use Rattle.s80_joining.specs.Theirs.{AreWorked, Become, HasTaken, Worked, after_ask, after_source, begun_from, in_section, is_passed_over, refused_in, with_change}

-- the changes are accepted, and this is the state that they make
abbrev pub IsAcceptedWork : State → Worked → Type 0
IsAcceptedWork state worked = AreAccepted state worked.changes × (worked.state ≡ state_from state worked.changes)

abbrev IfAccepted : State → Result Worked Refusal → Type 0
IfAccepted state (Ok worked) = IsAcceptedWork state worked
IfAccepted state (Err refusal) = ⊤

-- ---- one item

module _ (state : State) (worked : Worked) (so : IsAcceptedWork state worked) where
  change_worked : (change : Change) (answer : Result State Refusal) → accept change worked.state ≡ answer → IfAccepted state (with_change worked change answer)
  change_worked change (Err refusal) is = tt
  change_worked change (Ok now) is =
      let here : accept change (state_from state worked.changes) ≡ Ok now = ap (accept change) (sym so.1) ∙ is in (
        accepted_more state worked.changes change so.0 (is_accepted (accept change (state_from state worked.changes)) now here),
        is_after (accept change (state_from state worked.changes)) (state_from state worked.changes) now here ∙ sym (from_more state worked.changes change),
      )

  change_passed : (change : Change) (passed : Bool) → IfAccepted state (cond passed (Ok worked) (with_change worked change (accept change worked.state)))
  change_passed change true = so
  change_passed change false = change_worked change (accept change worked.state) refl

  in_a_section : (head : SectionHead) (why : Option Refusal) → IfAccepted state (in_section worked head why)
  in_a_section head None = so
  in_a_section head (Some refusal) = tt

  source_worked : (section : Section) (source : SourceParts) → IfAccepted state (after_source worked section source)
  source_worked (sections.Open head) source = change_passed (method_in head source) (is_passed_over (method_in head source))
  source_worked sections.Top source = so
  source_worked sections.Refused source = so

  refused_worked : (section : Section) (refusal : Refusal) → IfAccepted state (refused_in worked section refusal)
  refused_worked (sections.Open head) refusal = tt
  refused_worked sections.Top refusal = so
  refused_worked sections.Refused refusal = so

  ask_worked : (ask : Ask) → IfAccepted state (after_ask worked ask)
  ask_worked (refuses refusal) = tt
  ask_worked (adds change) = change_passed change (is_passed_over change)
  ask_worked (evaluates text told stopped) = so
  ask_worked condenses = so
  ask_worked (opens head) = in_a_section head (unknown_name head.class_name worked.state.classes)
  ask_worked (refuses_head refusal) = tt
  ask_worked (adds_source source) = source_worked worked.section source
  ask_worked (refuses_source refusal) = refused_worked worked.section refusal
  ask_worked closes = so
  ask_worked (tells query) = so
  ask_worked (files filed moment) = so
  ask_worked (seeks query lines) = so

-- ---- items

items_worked : (state : State) (before : Result Worked Refusal) (items : List SessionItem) (worked : Worked) → IfAccepted state before → Become before items (Ok worked) → IsAcceptedWork state worked
items_worked state (Err refusal) items worked so is = absurd (let impossible : Ok worked ≡ Err refusal = is in cc)
items_worked state (Ok first) [] worked so is = let same : first ≡ worked = let both : Ok worked ≡ Ok first = is in cc in subst (IsAcceptedWork state) same so
items_worked state (Ok first) (item ∷ items) worked so (ask, asks, rest) = items_worked state (after_ask first ask) items worked (ask_worked state first so ask) rest

pub theirs_accepted : (state : State) (items : List SessionItem) (worked : Worked) → AreWorked state items (Ok worked) → IsAcceptedWork state worked
theirs_accepted state items worked is = items_worked state (Ok (begun_from state)) items worked (tt, refl) is

-- ---- plans

-- none of them is refused
pub none_refused : (state : State) (changes : List Change) (index : ℕ) (refusal : Refusal) → AreAccepted state changes → IsFirstRefused state changes index refusal → ⊥
none_refused state changes index refusal all is = subst IsAccepted is.refused (accepted_at state changes index is.change all is.at)

module _ (theirs : Theirs) (changes base ours : List Change) (items : List SessionItem) (are : changes ≡ theirs.changes) (taken : HasTaken theirs (state_of base) items) where
  pub none_refused_taken : (index : ℕ) (refusal : Refusal) → IsPlan (state_of base) ours changes (Err (RefusesTheirs index refusal)) → ⊥
  none_refused_taken index refusal refused =
      none_refused (state_of base) changes index refusal (subst (AreAccepted (state_of base)) (sym (are ∙ taken.2.changes)) (theirs_accepted (state_of base) items taken.0 taken.1).0) refused

  -- the conflicts of a plan are those of what is worked
  pub planned : (plan : MergePlan) → IsPlan (state_of base) ours changes (Ok plan) → HasConflicts base ours items changes plan.conflicts
  planned plan told = record { worked = taken.0; all = taken.1; theirs_are = are ∙ taken.2.changes; are_keys = told.1 }

pub no_conflicts : (base ours : List Change) (items : List SessionItem) (theirs : List Change) (keys : List Key) → keys ≡ [] → HasConflicts base ours items theirs keys → HasConflicts base ours items theirs []
no_conflicts base ours items theirs keys none has = subst (HasConflicts base ours items theirs) none has
