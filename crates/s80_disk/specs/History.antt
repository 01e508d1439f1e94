-- The calls that a disk in memory has had, and what a crash after them may leave.
use Rattle.std.specs.Prelude.{◌≡◌, ◌⊎◌, ℕ, suc, ◌+◌, ◌≤◌, Bool, true, ◌&&◌, nat_le, List, [], ◌∷◌, length, take, drop, map, reverse, if◌then◌else◌}
use Rattle.s80_disk.specs.declared.disk.FileId.{FileId}
use Rattle.s80_disk.specs.declared.recorded.Recorded.{Recorded}
use Rattle.s80_disk.specs.declared.recorded.Recorded.TheVariants.{Write, Cut, Sync, Told}
use Rattle.s80_disk.specs.Image.{Image, Torn, CutShort, OnFile}
use Rattle.s80_disk.specs.Five.{same_file, overwritten, changed}

pub data Event : Type 0 where
  PieceAt : FileId → ℕ → List ℕ → Event
  CutTo : FileId → ℕ → Event
  Synced : FileId → Event
  -- so many bytes more are told
  Counted : ℕ → Event

-- what a recorded call did, where the pieces of all writes stand one after another
abbrev pub event_of : List ℕ → Recorded → Event
event_of pieces (Write file at from size) = PieceAt file at (take size (drop from pieces))
event_of pieces (Cut file to) = CutTo file to
event_of pieces (Sync file) = Synced file
event_of pieces (Told count) = Counted count

-- the events, the newest first
abbrev pub history : List ℕ → List Recorded → List Event
history pieces calls = reverse (map (event_of pieces) calls)

-- a recorded piece stands within so many bytes, and where it was written it ended within the room
abbrev pub is_within : ℕ → ℕ → Recorded → Bool
is_within used room (Write file at from size) = nat_le (from + size) used && nat_le (at + size) room
is_within used room (Cut file to) = true
is_within used room (Sync file) = true
is_within used room (Told count) = true

-- what the files hold after the events
abbrev pub contents : Image → List Event → Image
contents first [] = first
contents first (PieceAt file at piece ∷ events) = changed file (overwritten at piece) (contents first events)
contents first (CutTo file to ∷ events) = changed file (take to) (contents first events)
contents first (Synced file ∷ events) = contents first events
contents first (Counted count ∷ events) = contents first events

-- what each file held when it was last synced
abbrev pub synced : Image → List Event → Image
synced first [] = first
synced first (PieceAt file at piece ∷ events) = synced first events
synced first (CutTo file to ∷ events) = synced first events
synced first (Synced file ∷ events) = λ other. if same_file file other then contents first events other else synced first events other
synced first (Counted count ∷ events) = synced first events

-- what a crash after the events may leave
abbrev pub leaves : Image → List Event → Image → Type 0
leaves first [] c = (file : FileId) → c file ≡ first file
leaves first (PieceAt file at piece ∷ events) c = (d : Image) × leaves first events d × OnFile file (Torn at (length piece)) d c
leaves first (CutTo file to ∷ events) c = (d : Image) × leaves first events d × OnFile file (CutShort to) d c
leaves first (Synced file ∷ events) c = leaves first events c × (c file ≡ contents first events file)
leaves first (Counted count ∷ events) c = leaves first events c

-- how many bytes are told after the events
abbrev pub told_after : List Event → ℕ
told_after [] = 0
told_after (PieceAt file at piece ∷ events) = told_after events
told_after (CutTo file to ∷ events) = told_after events
told_after (Synced file ∷ events) = told_after events
told_after (Counted count ∷ events) = told_after events + count

-- how many bytes were written in all
abbrev pub written : List Event → ℕ
written [] = 0
written (PieceAt file at piece ∷ events) = written events + length piece
written (CutTo file to ∷ events) = written events
written (Synced file ∷ events) = written events
written (Counted count ∷ events) = written events

-- a crash after at least t of the events left this, with so many bytes told
abbrev pub left_in : Image → List Event → ℕ → ℕ → Image → Type 0
left_in first [] t told c = (t ≤ 0) × leaves first [] c × (told ≡ 0)
left_in first (event ∷ events) t told c = ((t ≤ suc (length events)) × leaves first (event ∷ events) c × (told ≡ told_after (event ∷ events))) ⊎ left_in first events t told c
