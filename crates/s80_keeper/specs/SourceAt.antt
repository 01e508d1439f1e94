-- What reading a source at its place answers.
use Rattle.std.specs.Prelude.{◌≡◌, ℕ, Bool, true, false, ◌+◌, ◌≤◌, List, length, slice_range, Result, Ok, Err, ⊤}
use Rattle.s80_chunk.specs.Chunks.{spell}
use Rattle.s80_kernel.specs.Text.{kernel_text}
use Rattle.s80_log.specs.declared.read.BlockFault.{BlockFault}
use Rattle.s80_log.specs.declared.read.BlockFault.TheVariants as block_faults

-- what so many bytes say of the source that they spell
abbrev pub IsSpelledAt : List ℕ → ℕ → Result (List ℕ) BlockFault → Type 0
IsSpelledAt bytes position (Ok source) = bytes ≡ spell source
IsSpelledAt bytes position (Err (block_faults.Bad place)) = (place ≡ position) × ((source : List ℕ) → bytes ≡ spell source → ⊥)
IsSpelledAt bytes position (Err block_faults.Memory) = ⊤
IsSpelledAt bytes position (Err (block_faults.Disk failed)) = ⊥

-- It is the source that a text spells from a place on, in so many bytes; or the text has no source there.
abbrev pub IsRead : List ℕ → ℕ → ℕ → Result (List ℕ) BlockFault → Type 0
IsRead text position size (Ok source) = (slice_range text position (position + size) ≡ spell source) × (length (spell source) ≡ size)
IsRead text position size (Err (block_faults.Bad place)) = (place ≡ position) × ((source : List ℕ) → position + size ≤ length text → slice_range text position (position + size) ≡ spell source → ⊥)
IsRead text position size (Err block_faults.Memory) = ⊤
IsRead text position size (Err (block_faults.Disk failed)) = ⊤

-- It is this source, or it isn't known: the text has a source at its place.
abbrev pub IsThis : List ℕ → Result (List ℕ) BlockFault → Type 0
IsThis source (Ok found) = found ≡ source
IsThis source (Err (block_faults.Bad place)) = ⊥
IsThis source (Err block_faults.Memory) = ⊤
IsThis source (Err (block_faults.Disk failed)) = ⊤

-- how long the text is in which a source stands: the kernel's, or a log of this length
abbrev pub length_for : Bool → ℕ → ℕ
length_for true size = length kernel_text
length_for false size = size
