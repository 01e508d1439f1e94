-- What merging comes to, and what it makes of the list.
use Rattle.std.specs.Prelude.{◌≡◌, ◌≢◌, Bool, true, List, [], ◌∷◌, ◌++◌, Option, Some, None, is_some, Result, Ok, Err}
use Rattle.s80_change.specs.declared.change.Change.{Change}
use Rattle.s80_form.specs.declared.refusal.Refusal.{Refusal}
use Rattle.s80_apply.specs.List.{add, state_of}
use Rattle.s80_merge.specs.declared.key.Key.{Key}
use Rattle.s80_merge.specs.Merging.{AreKeys, IsConflict, MergeEitherWay}
use Rattle.s80_model.specs.Asked.{Ask, adds}
use Rattle.s80_model.specs.declared.item.SessionItem.{SessionItem}
use Rattle.s80_joining.specs.declared.outcome.Outcome.{Outcome}
use Rattle.s80_joining.specs.declared.outcome.Outcome.TheVariants.{Refused, Conflicts, Joins}
use Rattle.s80_joining.specs.Parts.{base_of, ours_of}
use Rattle.s80_joining.specs.Theirs.{AreWorked, Worked}

-- ---- the outcome

-- all items are worked, and these are the conflicts
pub record HasConflicts (base ours : List Change) (items : List SessionItem) (theirs : List Change) (keys : List Key) : Type 0 where
  pub worked : Worked
  pub all : AreWorked (state_of base) items (Ok worked)
  pub theirs_are : theirs ≡ worked.changes
  pub are_keys : AreKeys (IsConflict (state_of base) ours theirs) keys

-- An item is bad; or else there are conflicts; or else these changes are added.
abbrev pub IsOutcome : List Change → List Change → List SessionItem → Outcome → Type 0
IsOutcome base ours items (Refused refusal) = AreWorked (state_of base) items (Err refusal)
IsOutcome base ours items (Conflicts keys) = (theirs : List Change) × HasConflicts base ours items theirs keys × (keys ≢ [])
IsOutcome base ours items (Joins theirs) = HasConflicts base ours items theirs []

-- what merging these items with a list comes to
abbrev pub MergesTo : List Change → List SessionItem → Outcome → Type 0
MergesTo changes items outcome = IsOutcome (base_of changes) (ours_of changes) items outcome

-- without conflicts either set may come first
abbrev pub MayMergeBy : List Change → List Change → List Change → List Key → Type 0
MayMergeBy base ours theirs keys = keys ≡ [] → MergeEitherWay base ours theirs

abbrev pub MayMerge : List Change → List Change → Outcome → Type 0
MayMerge base ours (Refused refusal) = Unit {0}
MayMerge base ours (Conflicts keys) = Unit {0}
MayMerge base ours (Joins theirs) = MergeEitherWay base ours theirs

-- ---- the list

-- changes that are added one after another: those that are accepted, and why the first that isn't is refused
pub record Joined : Type 0 where
  pub changes : List Change
  pub refusal : Option Refusal

abbrev pub with_joined : Change → Result (List Change) Refusal → Joined → Joined
with_joined change (Ok list) rest = record rest { changes = change ∷ rest.changes }
with_joined change (Err refusal) rest = record { changes = []; refusal = Some refusal }

abbrev pub joined : List Change → List Change → Joined
joined list [] = record { changes = []; refusal = None }
joined list (change ∷ changes) = with_joined change (add list change) (joined (list ++ change ∷ []) changes)

-- to add them is asked one by one, up to the first that is refused
abbrev pub asks_behind : Result (List Change) Refusal → List Ask → List Ask
asks_behind (Ok list) asks = asks
asks_behind (Err refusal) asks = []

abbrev pub joining_asks : List Change → List Change → List Ask
joining_asks list [] = []
joining_asks list (change ∷ changes) = adds change ∷ asks_behind (add list change) (joining_asks (list ++ change ∷ []) changes)

-- what it asks
abbrev pub asks_of : List Change → Outcome → List Ask
asks_of list (Refused refusal) = []
asks_of list (Conflicts keys) = []
asks_of list (Joins theirs) = joining_asks list theirs

abbrev pub list_after_merging : List Change → Outcome → List Change
list_after_merging list (Refused refusal) = list
list_after_merging list (Conflicts keys) = list
list_after_merging list (Joins theirs) = list ++ (joined list theirs).changes

-- a refusal, or a conflict
abbrev pub is_trouble : List Change → Outcome → Bool
is_trouble list (Refused refusal) = true
is_trouble list (Conflicts keys) = true
is_trouble list (Joins theirs) = is_some (joined list theirs).refusal
