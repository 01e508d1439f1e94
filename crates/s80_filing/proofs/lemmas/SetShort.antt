-- What isn't left out of a set makes the state that all of it makes.
use Rattle.std.proofs.Common.{◌≡◌, ◌+◌, ℕ, Bool, cond, true, false, refl, ap, List, [], ◌∷◌, length, map as list_map, Result, Ok, Err}
use Rattle.s80_change.specs.declared.change.Change.{Change}
use Rattle.s80_change.specs.Block.{block}
use Rattle.s80_form.specs.declared.refusal.Refusal.{Refusal}
use Rattle.s80_history.specs.Lists.{Placed, is_left_out, not_left_out, placed_from}
use Rattle.s80_apply.specs.Accept.{accept}
use Rattle.s80_apply.specs.List.{state_after, state_from, state_or, AreAccepted, IsAccepted}
use Rattle.s80_apply.specs.State.{State}
use Rattle.s80_fileout.proofs.Leading.{Leads, leads_first}
use Rattle.s80_filing.proofs.lemmas.SetKept.{AreBefore, before_itself, before_none}
use Rattle.s80_filing.proofs.lemmas.SetSteps.{Goes, step}

-- the changes that aren't left out
abbrev pub kept : List Change → List Change
kept [] = []
kept (change ∷ later) = cond (is_left_out change later) (kept later) (change ∷ kept later)

-- ---- the state that they make

-- an accepted change makes the state behind it
is_ok : (r : Result State Refusal) (state : State) → IsAccepted r → r ≡ Ok (state_or r state)
is_ok (Ok now) state is = refl
is_ok (Err refusal) state is = absurd is

-- one change, and then those behind it
goes_on : (change : Change) (later : List Change) (now short : State) → ((s : State) → AreBefore later now s → Leads s (kept later) (λ made. made ≡ state_from now later))
    → (b : Bool) → Goes b change later now short → Leads short (cond b (kept later) (change ∷ kept later)) (λ made. made ≡ state_from now later)
goes_on change later now short rest true at = rest short at
goes_on change later now short rest false (next_state, is, at) = leads_first change (kept later) short next_state (λ made. made ≡ state_from now later) is (rest next_state at)

-- they are accepted, and make of the short state the full one's
folds : (list : List Change) (full short : State) → AreAccepted full list → AreBefore list full short → Leads short (kept list) (λ made. made ≡ state_from full list)
folds [] full short all at = (tt, before_none full short at)
folds (change ∷ later) full short all at =
    let ok = is_ok (accept change full) full all.0 in
    goes_on change later (state_after change full) short (λ s. folds later (state_after change full) s all.1) (is_left_out change later)
    (step change full (state_after change full) ok later short at)

pub set_folds : (list : List Change) (state : State) → AreAccepted state list → Leads state (kept list) (λ made. made ≡ state_from state list)
set_folds list state all = folds list state state all (before_itself list state)

-- ---- without their places

pub kept_placed : (ps : List Placed) → list_map (λ (p : Placed). p.1) (not_left_out ps) ≡ kept (list_map (λ (p : Placed). p.1) ps)
kept_placed [] = refl
kept_placed (p ∷ ps) = go (is_left_out p.1 (list_map (λ (q : Placed). q.1) ps)) (kept_placed ps)
  where
    go : (b : Bool) → list_map (λ (p : Placed). p.1) (not_left_out ps) ≡ kept (list_map (λ (p : Placed). p.1) ps)
        → list_map (λ (p : Placed). p.1) (cond b (not_left_out ps) (p ∷ not_left_out ps)) ≡ cond b (kept (list_map (λ (q : Placed). q.1) ps)) (p.1 ∷ kept (list_map (λ (q : Placed). q.1) ps))
    go true rest = rest
    go false rest = ap (λ cs. p.1 ∷ cs) rest

pub placed_are : (at : ℕ) (list : List Change) → list_map (λ (p : Placed). p.1) (placed_from at list) ≡ list
placed_are at [] = refl
placed_are at (change ∷ list) = ap (λ cs. change ∷ cs) (placed_are (at + length (block change)) list)
