-- Where sources stand.
use Rattle.std.specs.Prelude.{◌≡◌, ◌+◌, ◌≤◌, ℕ, List, length, Bool, true, false, Some, slice_range}
use Rattle.std.specs.FinMap as map
use Rattle.s80_base.specs.declared.names.Side.{Side}
use Rattle.s80_chunk.specs.Chunks.{spell}
use Rattle.s80_kernel.specs.Text.{kernel_text}
use Rattle.s80_class.specs.Classes.{Name}
use Rattle.s80_apply.specs.Placed.{PlacedRow, PlacedState}

-- the text in which a source stands: the kernel's, or a log
abbrev pub text_for : Bool → List ℕ → List ℕ
text_for true log = kernel_text
text_for false log = log

-- the source stands at its place as a chunk spells it
pub record StandsAt (log : List ℕ) (row : PlacedRow) : Type 0 where
  pub within : row.position + row.length ≤ length (text_for row.from_kernel log)
  pub same : slice_range (text_for row.from_kernel log) row.position (row.position + row.length) ≡ spell row.source

-- so do those of all methods
abbrev pub AllStand : List ℕ → PlacedState → Type 0
AllStand log state = (name : Name) (side : Side) (selector : List ℕ) (row : PlacedRow) → map.get (state.methods name side) selector ≡ Some row → StandsAt log row
