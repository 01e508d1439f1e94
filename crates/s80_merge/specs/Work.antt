-- Change sets at work, their keys noted.
use Rattle.std.specs.Prelude.{◌≡◌, ◌||◌, ◌&&◌, ⊤, ℕ, Bool, List, Result, Ok, Err}
use Rattle.s80_change.specs.declared.change.Change.{Change}
use Rattle.s80_form.specs.declared.refusal.Refused.{Refused}
use Rattle.s80_form.specs.declared.refusal.Refused.TheVariants as refused
use Rattle.s80_class.specs.Classes.{Classes}
use Rattle.s80_apply.specs.State.{State}
use Rattle.s80_apply.specs.Accept.{accept}
use Rattle.s80_apply.specs.List.{AreAccepted, state_after}
use Rattle.s80_apply.specs.System.{IsSystemOf, SystemState}
use Rattle.s80_merge.specs.declared.key.Key.{Key}
use Rattle.s80_merge.specs.declared.planning.PlanFault.{PlanFault}
use Rattle.s80_merge.specs.declared.planning.PlanFault.TheVariants.{Memory, Theirs}
use Rattle.s80_merge.specs.declared.set.Touched.{Touched}
use Rattle.s80_merge.specs.Order.{has}
use Rattle.s80_merge.specs.Touched.{uses, writes}
use Rattle.s80_merge.specs.Merging.{IsFirstRefused, set_uses, set_writes}

-- the keys are those of before and these
abbrev pub GainsKeys : List Key → List Key → List Key → Type 0
GainsKeys before keys now = (key : Key) → has key now ≡ (has key before || has key keys)

-- what a change writes and uses is noted
pub record Gains (before : Touched) (change : Change) (classes : Classes) (now : Touched) : Type 0 where
  pub writes : GainsKeys before.writes (writes change classes) now.writes
  pub uses : GainsKeys before.uses (uses change classes) now.uses

-- these are the keys of a set that is worked from a state
pub record Touches (state : State) (changes : List Change) (touched : Touched) : Type 0 where
  pub writes : (key : Key) → has key touched.writes ≡ has key (set_writes state changes)
  pub uses : (key : Key) → has key touched.uses ≡ has key (set_uses state changes)

-- the keys of a set whose changes are all accepted, or the first that isn't
abbrev pub IsNoted : State → List Change → Result Touched PlanFault → Type 0
IsNoted state changes (Ok touched) = AreAccepted state changes × Touches state changes touched
IsNoted state changes (Err Memory) = ⊤
IsNoted state changes (Err (Theirs index refusal)) = IsFirstRefused state changes index refusal

-- the system has the state behind the change; or that is refused, and the system stays
abbrev pub IsWorked : State → Change → SystemState → Result (Unit {0}) Refused → Type 0
IsWorked state change now (Ok done) = (accept change state ≡ Ok (state_after change state)) × IsSystemOf now (state_after change state)
IsWorked state change now (Err (refused.Refusal refusal)) = (accept change state ≡ Err refusal) × IsSystemOf now state
IsWorked state change now (Err refused.Memory) = ⊤

-- the same of the change of an index
abbrev pub IsWorkedAt : ℕ → State → Change → SystemState → Result (Unit {0}) PlanFault → Type 0
IsWorkedAt index state change now (Ok done) = (accept change state ≡ Ok (state_after change state)) × IsSystemOf now (state_after change state)
IsWorkedAt index state change now (Err Memory) = ⊤
IsWorkedAt index state change now (Err (Theirs i refusal)) = (i ≡ index) × (accept change state ≡ Err refusal)

-- ---- what two sets share

-- whether a change of the set writes or uses the key
abbrev pub is_touched : Key → Touched → Bool
is_touched key touched = has key touched.writes || has key touched.uses

abbrev pub is_conflict : Key → Touched → Touched → Bool
is_conflict key ours theirs = (has key ours.writes && is_touched key theirs) || (has key theirs.writes && is_touched key ours)
