-- Where the sources of a state stand: beside each method the place of its source, in the kernel's text or in the log.
use Rattle.std.specs.Prelude.{◌≡◌, ℕ, ◌+◌, Bool, true, false, codes, List, [], ◌∷◌, ◌++◌, Result, length}
use Rattle.s80_base.specs.declared.names.Side.{Side}
use Rattle.s80_chunk.specs.Chunks.{mark, spell, chunk}
use Rattle.s80_kernel.specs.Methods.{KernelMethodRow, kernel_methods}
use Rattle.s80_change.specs.declared.change.Change.{Change}
use Rattle.s80_change.specs.declared.change.Method.{Method}
use Rattle.s80_form.specs.declared.refusal.Refusal.{Refusal}
use Rattle.s80_change.specs.Head.{head_text}
use Rattle.s80_change.specs.Block.{block, head_of}
use Rattle.s80_class.specs.Classes.{Name}
use Rattle.s80_apply.specs.Kernel.{kernel_classes}
use Rattle.s80_apply.specs.State.{MethodRow, State, StateOf, no_methods, put_kernel_methods}
use Rattle.s80_apply.specs.Accept.{Keeping, accept_with}
use Rattle.s80_apply.specs.List.{state_or}
use Rattle.s80_apply.specs.Seen.{AreSeen}

-- a method by its category and its source; and where the source stands, in the kernel's text or in the log
pub record PlacedRow : Type 0 where
  pub category : List ℕ
  pub source : List ℕ
  pub from_kernel : Bool
  pub position : ℕ
  pub length : ℕ

abbrev pub PlacedState : Type 0
PlacedState = StateOf PlacedRow

-- what the state has of a method
abbrev pub without_place : PlacedRow → MethodRow
without_place row = record { category = row.category; source = row.source }

-- ---- the kernel's methods

abbrev pub placed_kernel_method : KernelMethodRow → PlacedRow
placed_kernel_method k = record { category = codes "kernel"; source = k.source; from_kernel = true; position = k.position; length = length k.source }

unfoldable pub placed_kernel_state : PlacedState
placed_kernel_state = put_kernel_methods placed_kernel_method kernel_methods (record { classes = kernel_classes; methods = no_methods })

-- ---- methods

-- where the source of a method begins in its block
abbrev pub source_offset : Method → ℕ
source_offset m = length (mark ∷ chunk (head_text (head_of m)) ++ 10 ∷ [])

-- a method whose block begins at this place of the log: its source stands there
abbrev pub keeping_places : ℕ → Keeping PlacedRow
keeping_places at = record {
  put = λ m. record { category = m.category; source = m.source.text; from_kernel = false; position = at + source_offset m; length = length (spell m.source.text) };
  under = λ category row. record row { category = category };
}

-- ---- changes

-- the state after a change whose block begins at this place of the log
abbrev pub accept_placed : Change → ℕ → PlacedState → Result PlacedState Refusal
accept_placed change at state = accept_with (keeping_places at) change state

abbrev pub placed_after : Change → ℕ → PlacedState → PlacedState
placed_after change at state = state_or (accept_placed change at state) state

-- what changes make of a state one after another, the first of whose blocks begins at this place
abbrev pub placed_from : PlacedState → ℕ → List Change → PlacedState
placed_from state at [] = state
placed_from state at (change ∷ changes) = placed_from (placed_after change at state) (at + length (block change)) changes

-- where the sources of a list stand
abbrev pub placed_of : List Change → PlacedState
placed_of changes = placed_from placed_kernel_state 0 changes

-- ---- what they have to do with the state

-- it has the state's classes and methods
pub record ArePlacesOf (placed : PlacedState) (state : State) : Type 0 where
  pub classes : placed.classes ≡ state.classes
  pub methods : (name : Name) (side : Side) → AreSeen without_place (placed.methods name side) (state.methods name side)
