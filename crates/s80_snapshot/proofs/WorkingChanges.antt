-- Changes that are accepted, worked in a system.
use Rattle.std.proofs.Common.{◌≡◌, ◌∙◌, ◌+◌, ◌++◌, ℕ, suc, zero, refl, sym, ap, subst, List, [], ◌∷◌, Some, Result, Ok, Err, take, drop, slice_get, arith}
use Rattle.s80_change.specs.declared.change.Change.{Change}
use Rattle.s80_form.specs.declared.refusal.Refusal.{Refusal}
use Rattle.s80_apply.specs.Accept.{accept}
use Rattle.s80_apply.specs.Placed.{PlacedState, accept_placed}
use Rattle.s80_apply.specs.List.{AreAccepted, IsAccepted, state_after, state_from, state_or}
use Rattle.s80_apply.specs.State.{State}
use Rattle.s80_apply.specs.declared.step.Step.{Step}
use Rattle.s80_apply.specs.System.{HasPlaces, IsInstalled, IsSystemOf, Makes, MakesPlaces, SystemState}
use Rattle.s80_snapshot.specs.Resuming.{Accepts}
use Rattle.s80_snapshot.proofs.PiecesAdded.{take_next}

pub state_made : (before now : SystemState) (step : Step) (change : Change) (state : State) → Makes before step change state → IsInstalled before step 0 now
    → (after : State) × (accept change state ≡ Ok after) × IsSystemOf now after
state_made before now step change state makes installed = (makes.0, makes.1, makes.2 0 now installed)

pub places_made : (before now : SystemState) (step : Step) (change : Change) (placed : PlacedState) → MakesPlaces before step change placed → IsInstalled before step 0 now
    → (after : PlacedState) × (accept_placed change 0 placed ≡ Ok after) × HasPlaces now after
places_made before now step change placed makes installed = let m = makes 0 in (m.0, m.1, m.2 now installed)

-- the state behind a change that is worked
pub state_behind : (now : SystemState) (change : Change) (state : State) → (after : State) × (accept change state ≡ Ok after) × IsSystemOf now after → IsSystemOf now (state_after change state)
state_behind now change state worked = subst (λ r. IsSystemOf now (state_or r state)) (sym worked.1) worked.2

-- what is accepted isn't refused
pub not_refused : (system : SystemState) (change : Change) (refusal : Refusal) (accepts : Accepts system change) → accept change accepts.0 ≡ Err refusal → ⊥
not_refused system change refusal accepts refused = subst IsAccepted refused accepts.2

-- ---- a list of changes

from_more : (state : State) (changes : List Change) (change : Change) → state_from state (changes ++ change ∷ []) ≡ state_after change (state_from state changes)
from_more state [] change = refl
from_more state (c ∷ cs) change = from_more (state_after c state) cs change

pub from_next : (state : State) (changes : List Change) (i : ℕ) (change : Change) → slice_get changes i ≡ Some change → state_from state (take (i + 1) changes) ≡ state_after change (state_from state (take i changes))
from_next state changes i change at = ap (state_from state) (take_next changes i change at) ∙ from_more state (take i changes) change

pub accepted_at : (state : State) (changes : List Change) (i : ℕ) (change : Change) → AreAccepted state changes → slice_get changes i ≡ Some change → IsAccepted (accept change (state_from state (take i changes)))
accepted_at state [] i change all at = absurd (cc)
accepted_at state (c ∷ cs) zero change all at = let same : c ≡ change = cc in subst (λ x. IsAccepted (accept x state)) same all.0
accepted_at state (c ∷ cs) (suc i) change all at = accepted_at (state_after c state) cs i change all.1 at
