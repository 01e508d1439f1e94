-- The change set of a list, worked from the base behind which it begins, makes the state of the list.
use Rattle.std.proofs.Common.{◌≡◌, ◌∙◌, ◌+◌, ◌++◌, ◌||◌, ℕ, Bool, cond, true, false, refl, sym, ap, subst, List, [], ◌∷◌, length, map as list_map}
use Rattle.std.specs.List.{list_any}
use Rattle.s80_change.specs.declared.change.Change.{Change}
use Rattle.s80_change.specs.declared.change.Change.TheVariants.{Form, Method, DoIt}
use Rattle.s80_change.specs.Block.{block}
use Rattle.s80_history.specs.Lists.{Placed, behind_last, is_no_changes, placed_from}
use Rattle.s80_apply.specs.List.{state_after, state_from, state_of, AreAccepted, IsBuilt}
use Rattle.s80_apply.specs.State.{State, kernel_state}
use Rattle.s80_fileout.proofs.Leading.{Leads}
use Rattle.s80_merge.proofs.lemmas.Merged.{accepted_both, accepted_first, accepted_last, from_both}
use Rattle.s80_filing.proofs.lemmas.SetShort.{kept, kept_placed, placed_are, set_folds}
use Rattle.s80_joining.specs.Parts.{base_of, ours_of, up_to_last}
use Rattle.s80_joining.proofs.BaseRead.{without_doits}

-- ---- the list before it

-- what stands behind the last that passes
abbrev behind : (Change → Bool) → List Change → List Change
behind passes [] = []
behind passes (change ∷ changes) = cond (passes change || list_any passes changes) (behind passes changes) (change ∷ changes)

none_behind : (passes : Change → Bool) (list : List Change) → list_any passes list ≡ false → behind passes list ≡ list
none_behind passes [] none = refl
none_behind passes (change ∷ changes) none = ap (λ (b : Bool). cond b (behind passes changes) (change ∷ changes)) none

parts : (passes : Change → Bool) (list : List Change) → up_to_last passes list ++ behind passes list ≡ list
parts passes [] = refl
parts passes (change ∷ changes) = by_test (passes change || list_any passes changes) (parts passes changes)
  where
    by_test : (b : Bool) → up_to_last passes changes ++ behind passes changes ≡ changes
        → cond b (change ∷ up_to_last passes changes) [] ++ cond b (behind passes changes) (change ∷ changes) ≡ change ∷ changes
    by_test true is = ap (λ cs. change ∷ cs) is
    by_test false is = refl

any_placed : (passes : Change → Bool) (at : ℕ) (list : List Change) → list_any (λ (q : Placed). passes q.1) (placed_from at list) ≡ list_any passes list
any_placed passes at [] = refl
any_placed passes at (change ∷ list) = ap (λ b. passes change || b) (any_placed passes (at + length (block change)) list)

behind_placed : (passes : Change → Bool) (at : ℕ) (list : List Change) → list_map (λ (p : Placed). p.1) (behind_last passes (placed_from at list)) ≡ behind passes list
behind_placed passes at [] = refl
behind_placed passes at (change ∷ list) =
    ap (λ (later : Bool). list_map (λ (p : Placed). p.1) (cond later (behind_last passes ps) (cond (passes change) ps ((at, change) ∷ ps)))) (any_placed passes (at + length (block change)) list)
    ∙ by_tests (list_any passes list) (passes change) refl (behind_placed passes (at + length (block change)) list)
  where
    ps : List Placed
    ps = placed_from (at + length (block change)) list

    by_tests : (later here : Bool) → list_any passes list ≡ later → list_map (λ (p : Placed). p.1) (behind_last passes ps) ≡ behind passes list
        → list_map (λ (p : Placed). p.1) (cond later (behind_last passes ps) (cond here ps ((at, change) ∷ ps))) ≡ cond (here || later) (behind passes list) (change ∷ list)
    by_tests true true is rest = rest
    by_tests true false is rest = rest
    by_tests false true is rest = placed_are (at + length (block change)) list ∙ sym (none_behind passes list is)
    by_tests false false is rest = ap (λ cs. change ∷ cs) (placed_are (at + length (block change)) list)

ours_kept : (list : List Change) → ours_of list ≡ kept (behind is_no_changes list)
ours_kept list = kept_placed (behind_last is_no_changes (placed_from 0 list)) ∙ ap kept (behind_placed is_no_changes 0 list)

-- ---- doIts make nothing of a state

same_without : (state : State) (list : List Change) → state_from state (without_doits list) ≡ state_from state list
same_without state [] = refl
same_without state (Form form ∷ list) = same_without (state_after (Form form) state) list
same_without state (Method m ∷ list) = same_without (state_after (Method m) state) list
same_without state (DoIt text ∷ list) = same_without state list

accepted_without : (state : State) (list : List Change) → AreAccepted state list → AreAccepted state (without_doits list)
accepted_without state [] all = tt
accepted_without state (Form form ∷ list) all = (all.0, accepted_without (state_after (Form form) state) list all.1)
accepted_without state (Method m ∷ list) all = (all.0, accepted_without (state_after (Method m) state) list all.1)
accepted_without state (DoIt text ∷ list) all = accepted_without state list all.1

-- ---- both

module _ (list : List Change) (built : IsBuilt list) where
  abbrev front : List Change
  front = up_to_last is_no_changes list

  abbrev rest : List Change
  rest = behind is_no_changes list

  in_parts : IsBuilt (front ++ rest)
  in_parts = subst IsBuilt (sym (parts is_no_changes list)) built

  base_same : state_of (base_of list) ≡ state_of front
  base_same = same_without kernel_state front

  set_leads : Leads (state_of front) (kept rest) (λ made. made ≡ state_from (state_of front) rest)
  set_leads = set_folds rest (state_of front) (accepted_last kernel_state front rest in_parts)

  pub starts_built : IsBuilt (base_of list ++ ours_of list)
  starts_built =
      subst (λ cs. IsBuilt (base_of list ++ cs)) (sym (ours_kept list))
      (accepted_both kernel_state (base_of list) (kept rest) (accepted_without kernel_state front (accepted_first kernel_state front rest in_parts)) (subst (λ s. AreAccepted s (kept rest)) (sym base_same) set_leads.0))

  pub starts_same : state_of (base_of list ++ ours_of list) ≡ state_of list
  starts_same =
      ap (λ cs. state_of (base_of list ++ cs)) (ours_kept list) ∙ from_both kernel_state (base_of list) (kept rest) ∙ ap (λ s. state_from s (kept rest)) base_same
      ∙ set_leads.1 ∙ sym (from_both kernel_state front rest) ∙ ap state_of (parts is_no_changes list)
