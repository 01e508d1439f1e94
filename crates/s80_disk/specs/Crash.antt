-- What a crash leaves of a disk in memory, by the choice of it.
use Rattle.std.specs.Prelude.{◌≡◌, ◌≢◌, ℕ, ◌+◌, ◌%◌, ◌<◌, ◌≤◌, min, max, Bool, false, MatchBool, List, length, take, drop, slice_index, if◌then◌else◌}
use Rattle.s80_disk.specs.declared.disk.FileId.{FileId}
use Rattle.s80_disk.specs.declared.recorded.Recorded.{Recorded}
use Rattle.s80_disk.specs.declared.recorded.Recorded.TheVariants.{Write, Cut, Sync, Told}
use Rattle.s80_disk.specs.Image.{Image}
use Rattle.s80_disk.specs.Five.{same_file, overwritten}
use Rattle.s80_disk.specs.History.{Event, leaves}
use Rattle.s80_disk.specs.History.Event.{PieceAt, CutTo, Synced, Counted}

-- the byte that a choice puts at a place
abbrev pub any_byte : ℕ → ℕ → ℕ
any_byte choice place = (choice + place) % 256

-- the file has its greatest length, and where its byte isn't the choice's, every crash leaves that byte
pub record Spreads (choice : ℕ) (may_leave : Image → Type 0) (file : FileId) (bytes : List ℕ) : Type 0 where
  pub longest : (c : Image) → may_leave c → length (c file) ≤ length bytes
  pub certain : (c : Image) (place : ℕ) → may_leave c → place < length bytes → slice_index bytes place ≢ any_byte choice place → (place < length (c file)) × (slice_index (c file) place ≡ slice_index bytes place)

-- the file holds these bytes, and the others what they held
abbrev pub replaced : FileId → List ℕ → Image → Image
replaced file bytes image other = if same_file file other then bytes else image other

-- a crash may leave these bytes in the file, whatever it leaves in the others
abbrev pub MayHold : Image → List Event → FileId → List ℕ → Type 0
MayHold first events file bytes = (c : Image) → leaves first events c → leaves first events (replaced file bytes c)

-- the choice's bytes from a place, or from the end if that is before it, up to another place
pub record Scattered (choice from to : ℕ) (old new : List ℕ) : Type 0 where
  pub before : take (min from (length old)) new ≡ take (min from (length old)) old
  pub after : drop to new ≡ drop to old
  pub length_is : length new ≡ max (length old) to
  pub here : (place : ℕ) → min from (length old) ≤ place → place < to → slice_index new place ≡ any_byte choice place

-- what an event makes of a file
abbrev pub done : FileId → Event → List ℕ → List ℕ
done file (PieceAt other at piece) bytes = if same_file other file then overwritten at piece bytes else bytes
done file (CutTo other to) bytes = if same_file other file then take to bytes else bytes
done file (Synced other) bytes = bytes
done file (Counted count) bytes = bytes

-- what a crash by the choice makes of a file by a call that no sync followed
abbrev pub Tears : ℕ → FileId → Recorded → List ℕ → List ℕ → Type 0
Tears choice file (Write other at from size) old new = MatchBool (same_file other file) (Scattered choice at (at + size) old new) (new ≡ old)
Tears choice file (Cut other to) old new = MatchBool (same_file other file) (Scattered choice to (length old) old new) (new ≡ old)
Tears choice file (Sync other) old new = new ≡ old
Tears choice file (Told count) old new = new ≡ old

-- whether a recorded call synced the file
abbrev pub syncs : FileId → Recorded → Bool
syncs file (Write other at from size) = false
syncs file (Cut other to) = false
syncs file (Sync other) = same_file other file
syncs file (Told count) = false
