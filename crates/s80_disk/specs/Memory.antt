-- What a disk in memory holds and tells, and which of its calls fail.
use Rattle.std.specs.Prelude.{◌≡◌, ◌⊎◌, ℕ, ◌+◌, ◌<◌, List, ◌∷◌, length, take, None, []}
use Rattle.s80_base.specs.Memory.{next_call}
use Rattle.s80_disk.specs.declared.plan.FaultPlan.{FaultPlan}
use Rattle.s80_disk.specs.declared.disk.FileId.{FileId}
use Rattle.s80_disk.specs.declared.memory.MemDisk.{MemDisk}
use Rattle.s80_disk.specs.Image.{Image}
use Rattle.s80_disk.specs.Moments.{Beside}
use Rattle.s80_disk.specs.Plan.{Plans}
use Rattle.s80_disk.specs.Five.{image_of}
use Rattle.s80_disk.specs.History.{Event, history, synced, leaves, told_after, left_in, written}
use Rattle.s80_disk.specs.History.Event.{Counted}

-- the recorded calls of a disk in memory, the newest first
abbrev pub events_of : MemDisk → List Event
events_of d = history d.pieces.items d.calls.items

-- the first so many of them
abbrev pub events_until : MemDisk → ℕ → List Event
events_until d n = history d.pieces.items (take n d.calls.items)

-- what its files held when it was made, and what they hold now
abbrev pub first_files : MemDisk → Image
first_files d = image_of d.first

abbrev pub files_of : MemDisk → Image
files_of d = image_of d.current

-- what each held when it was last synced, or first if it never was
abbrev pub synced_files : MemDisk → Image
synced_files d = synced (first_files d) (events_of d)

-- how many bytes are told, by its record
abbrev pub told_by : MemDisk → ℕ
told_by d = told_after (events_of d)

-- what a crash now may leave, and what a crash since a moment may have left
abbrev pub images_of : MemDisk → Image → Type 0
images_of d = leaves (first_files d) (events_of d)

abbrev pub images_since : MemDisk → ℕ → ℕ → Image → Type 0
images_since d = left_in (first_files d) (events_of d)

-- nothing is pending: a crash now leaves what a read gives
abbrev pub IsSettled : MemDisk → Type 0
IsSettled d = (c : Image) → images_of d c → (file : FileId) → c file ≡ files_of d file

abbrev pub moment_of : MemDisk → ℕ
moment_of d = length (events_of d)

-- a disk alone has nothing beside its files but the bytes told
abbrev pub beside_of : MemDisk → Beside
beside_of d = record { left = None; taken = None; told = told_by d; read_faults = 0; write_faults = 0; seconds = None }

-- the room of each file and of all writes together, how many calls it records, and which calls fail
abbrev pub file_room : MemDisk → ℕ
file_room d = d.room

abbrev pub call_room : MemDisk → ℕ
call_room d = d.most_calls

abbrev pub plan_of : MemDisk → FaultPlan
plan_of d = d.plan

-- how many calls it had, and how many of them failed
abbrev pub calls_made : MemDisk → ℕ
calls_made d = d.made

abbrev pub calls_failed : MemDisk → ℕ
calls_failed d = d.faults

-- the same room, record and plan, and the same files to begin with
pub record SameSettings (old new : MemDisk) : Type 0 where
  pub first_files_same : first_files new ≡ first_files old
  pub file_room_same : file_room new ≡ file_room old
  pub call_room_same : call_room new ≡ call_room old
  pub plan_same : plan_of new ≡ plan_of old

-- no call more, and the same settings
pub record SameCounts (old new : MemDisk) : Type 0 where
  pub made : calls_made new ≡ calls_made old
  pub failed : calls_failed new ≡ calls_failed old
  pub settings : SameSettings old new

-- one call more, and the same settings
pub record CountsCall (old new : MemDisk) : Type 0 where
  pub made : calls_made new ≡ next_call (calls_made old)
  pub settings : SameSettings old new

-- its next call fails by the plan
abbrev pub FailsNext : MemDisk → Type 0
FailsNext d = Plans (plan_of d) (next_call (calls_made d))

-- no further call can be recorded
abbrev pub IsRecordFull : MemDisk → Type 0
IsRecordFull d = length (events_of d) ≡ call_room d

-- a write of so many bytes at a place passes the room of its file, or that of all writes together
abbrev pub PassesRoom : MemDisk → ℕ → ℕ → Type 0
PassesRoom d at size = (file_room d < at + size) ⊎ (file_room d < written (events_of d) + size)

-- the same files and calls, and perhaps a count of told bytes more
pub record Tells (old new : MemDisk) : Type 0 where
  pub first : first_files new ≡ first_files old
  pub current : files_of new ≡ files_of old
  pub faults : calls_failed new ≡ calls_failed old
  pub events : (events_of new ≡ events_of old) ⊎ ((n : ℕ) × (events_of new ≡ Counted n ∷ events_of old))

-- a disk with this room, record and plan that has had no call, and on which nothing is pending
pub record IsNew (room calls : ℕ) (plan : FaultPlan) (d : MemDisk) : Type 0 where
  pub settled : IsSettled d
  pub nothing_recorded : events_of d ≡ []
  pub nothing_told : told_by d ≡ 0
  pub none_made : calls_made d ≡ 0
  pub none_failed : calls_failed d ≡ 0
  pub file_room_is : file_room d ≡ room
  pub call_room_is : call_room d ≡ calls
  pub plan_is : plan_of d ≡ plan
