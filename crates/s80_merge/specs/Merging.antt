-- Two change sets that start from one list: where they are in conflict, and what it means that they may be merged.
use Rattle.std.specs.Prelude.{◌≡◌, ◌⊎◌, ◌↔◌, ⊤, ℕ, List, [], ◌∷◌, ◌++◌, Some, Result, Ok, Err, take, slice_get}
use Rattle.std.specs.List.{Contains}
use Rattle.std.specs.List.Sorted.{IsStrictlySortedBy}
use Rattle.s80_change.specs.declared.change.Change.{Change}
use Rattle.s80_form.specs.declared.refusal.Refusal.{Refusal}
use Rattle.s80_form.specs.declared.refusal.Refusal.TheVariants.{TooMany}
use Rattle.s80_apply.specs.State.{State, kernel_state}
use Rattle.s80_apply.specs.Accept.{accept}
use Rattle.s80_apply.specs.List.{AreAccepted, IsBuilt, state_after, state_from, state_of}
use Rattle.s80_merge.specs.declared.key.Key.{Key}
use Rattle.s80_merge.specs.declared.planning.MergePlan.{MergePlan}
use Rattle.s80_merge.specs.declared.planning.PlanFault.{PlanFault}
use Rattle.s80_merge.specs.declared.planning.PlanFault.TheVariants.{Memory, Theirs}
use Rattle.s80_merge.specs.Order.{key_cmp}
use Rattle.s80_merge.specs.Touched.{uses, writes}

-- ---- conflicts

-- what a set writes that is worked from a state, each change in the state behind those before it
abbrev pub set_writes : State → List Change → List Key
set_writes state [] = []
set_writes state (change ∷ changes) = writes change state.classes ++ set_writes (state_after change state) changes

-- what it uses
abbrev pub set_uses : State → List Change → List Key
set_uses state [] = []
set_uses state (change ∷ changes) = uses change state.classes ++ set_uses (state_after change state) changes

-- the one set writes the key, and the other writes or uses it
abbrev pub Clashes : State → List Change → List Change → Key → Type 0
Clashes base one other key = Contains (set_writes base one) key × (Contains (set_writes base other) key ⊎ Contains (set_uses base other) key)

abbrev pub IsConflict : State → List Change → List Change → Key → Type 0
IsConflict base ours theirs key = Clashes base ours theirs key ⊎ Clashes base theirs ours key

-- just the keys of which this holds, each once, in order
abbrev pub AreKeys : (Key → Type 0) → List Key → Type 0
AreKeys P keys = IsStrictlySortedBy key_cmp keys × ((key : Key) → Contains keys key ↔ P key)

-- ---- plans

-- the change of this index is the first that is refused, and for this
pub record IsFirstRefused (base : State) (changes : List Change) (index : ℕ) (refusal : Refusal) : Type 0 where
  pub before : AreAccepted base (take index changes)
  pub change : Change
  pub at : slice_get changes index ≡ Some change
  pub refused : accept change (state_from base (take index changes)) ≡ Err refusal

-- the conflicts of two sets, the second of which may be refused
abbrev pub IsPlan : State → List Change → List Change → Result MergePlan PlanFault → Type 0
IsPlan base ours theirs (Ok plan) = AreAccepted base theirs × AreKeys (IsConflict base ours theirs) plan.conflicts
IsPlan base ours theirs (Err Memory) = ⊤
IsPlan base ours theirs (Err (Theirs index refusal)) = IsFirstRefused base theirs index refusal

-- ---- merging

-- there would be too many of something
abbrev pub IsLimit : Refusal → Type 0
IsLimit (TooMany kind count) = ⊤
IsLimit _ = ⊥

-- no limit is met
abbrev pub IsWithinLimits : Result State Refusal → Type 0
IsWithinLimits (Ok state) = ⊤
IsWithinLimits (Err refusal) = IsLimit refusal → ⊥

abbrev pub AreWithinLimits : State → List Change → Type 0
AreWithinLimits state [] = ⊤
AreWithinLimits state (change ∷ changes) = IsWithinLimits (accept change state) × AreWithinLimits (state_after change state) changes

-- Behind the base either set may come first.
pub record MergeEitherWay (base ours theirs : List Change) : Type 0 where
  -- the first change of the second set that is refused, is refused for a limit
  pub behind_ours : (index : ℕ) (refusal : Refusal) → IsFirstRefused (state_of (base ++ ours)) theirs index refusal → IsLimit refusal
  pub behind_theirs : (index : ℕ) (refusal : Refusal) → IsFirstRefused (state_of (base ++ theirs)) ours index refusal → IsLimit refusal
  -- within the limits all changes are accepted, and both orders make one state
  pub ours_first : AreWithinLimits kernel_state (base ++ (ours ++ theirs)) → IsBuilt (base ++ (ours ++ theirs))
  pub theirs_first : AreWithinLimits kernel_state (base ++ (theirs ++ ours)) → IsBuilt (base ++ (theirs ++ ours))
  pub one_state : AreWithinLimits kernel_state (base ++ (ours ++ theirs)) → AreWithinLimits kernel_state (base ++ (theirs ++ ours)) → state_of (base ++ (ours ++ theirs)) ≡ state_of (base ++ (theirs ++ ours))
