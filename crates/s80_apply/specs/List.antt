-- The list of changes: the state that it makes, and what may be added to it.
use Rattle.std.specs.Prelude.{◌≡◌, ℕ, ◌+◌, nat_le, if◌then◌else◌, List, [], ◌∷◌, ◌++◌, length, Option, Some, None, Result, Ok, Err}
use Rattle.s80_change.specs.declared.change.Change.{Change}
use Rattle.s80_form.specs.declared.refusal.Refusal.{Refusal}
use Rattle.s80_form.specs.declared.refusal.Refusal.TheVariants.{LogFull}
use Rattle.s80_change.specs.Block.{block, blocks, log_limit}
use Rattle.s80_class.specs.Classes.{Classes}
use Rattle.s80_apply.specs.State.{State, StateOf, kernel_state}
use Rattle.s80_apply.specs.Accept.{accept}

-- the state behind a change that was worked: where it is refused it stays
abbrev pub state_or : {M : Type 0} → Result (StateOf M) Refusal → StateOf M → StateOf M
state_or (Ok state) before = state
state_or (Err refusal) before = before

abbrev pub state_after : Change → State → State
state_after change state = state_or (accept change state) state

-- the state that changes make of this one, one change after another
abbrev pub state_from : State → List Change → State
state_from state [] = state
state_from state (change ∷ changes) = state_from (state_after change state) changes

-- the state that a list makes of the kernel's
abbrev pub state_of : List Change → State
state_of changes = state_from kernel_state changes

abbrev pub classes_of : List Change → Classes
classes_of changes = (state_of changes).classes

-- these are the classes of some list
abbrev pub AreOfList : Classes → Type 0
AreOfList classes = (changes : List Change) × (classes ≡ classes_of changes)

abbrev pub IsAccepted : {M : Type 0} → Result (StateOf M) Refusal → Type 0
IsAccepted (Ok state) = Unit {0}
IsAccepted (Err refusal) = ⊥

-- each change is accepted by the state that those before it make
abbrev pub AreAccepted : State → List Change → Type 0
AreAccepted state [] = Unit {0}
AreAccepted state (change ∷ changes) = IsAccepted (accept change state) × AreAccepted (state_after change state) changes

-- the list is built from nothing, each of its changes accepted
abbrev pub IsBuilt : List Change → Type 0
IsBuilt changes = AreAccepted kernel_state changes

-- why a block of this size isn't put behind so many bytes of log, if it isn't
abbrev pub too_full : ℕ → ℕ → Option Refusal
too_full end size = if nat_le (end + size) log_limit then None else Some (LogFull end)

abbrev pub refused_or : Result State Refusal → Option Refusal → Option Refusal
refused_or (Ok state) full = full
refused_or (Err refusal) full = Some refusal

-- why a change is refused in this state and behind a log of this length, if it is
abbrev pub refusal_to : State → ℕ → Change → Option Refusal
refusal_to state end change = refused_or (accept change state) (too_full end (length (block change)))

abbrev pub added : Option Refusal → List Change → Result (List Change) Refusal
added None changes = Ok changes
added (Some refusal) changes = Err refusal

-- a list with a change behind it, or why the change is refused
abbrev pub add : List Change → Change → Result (List Change) Refusal
add changes change = added (refusal_to (state_of changes) (length (blocks changes)) change) (changes ++ change ∷ [])
