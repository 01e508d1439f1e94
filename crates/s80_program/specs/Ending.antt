-- How the program ends, and what its counts of faults say of that.
use Rattle.std.specs.Prelude.{◌≡◌, ℕ, List, Bool, true, false, Option, Some, None, Result, Ok, Err, codes}
use Rattle.s80_base.specs.Causes.{Rose}
use Rattle.s80_disk.specs.Shown.{Faults}
use Rattle.s80_session.specs.declared.end.SessionEnd.{SessionEnd}
use Rattle.s80_session.specs.declared.end.SessionEnd.TheVariants as ends
use Rattle.s80_program.specs.declared.status.Status.{Status}
use Rattle.s80_program.specs.declared.status.Status.TheVariants as status

-- a fault is answered only where its count rose, and what is no fault only where no call failed
abbrev pub StatusHasReason : Faults → Faults → Status → Type 0
StatusHasReason before now status.Done = now ≡ before
StatusHasReason before now status.DoneWithRefusals = now ≡ before
StatusHasReason before now status.Usage = now ≡ before
StatusHasReason before now status.ReadFault = Rose before.read now.read
StatusHasReason before now status.WriteFault = Rose before.write now.write
StatusHasReason before now status.DiskFault = Rose before.disk now.disk
StatusHasReason before now status.Damaged = now ≡ before
StatusHasReason before now status.OutOfMemory = now ≡ before
StatusHasReason before now status.InputTooLong = now ≡ before

-- no count of faults rose
pub record NoFault (before now : Faults) : Type 0 where
  pub read : Rose before.read now.read → ⊥
  pub write : Rose before.write now.write → ⊥
  pub disk : Rose before.disk now.disk → ⊥

-- the status of a run that ended so, and whether something was refused
abbrev pub status_after : Result Bool SessionEnd → Status
status_after (Ok false) = status.Done
status_after (Ok true) = status.DoneWithRefusals
status_after (Err ends.Memory) = status.OutOfMemory
status_after (Err (ends.Read failed)) = status.ReadFault
status_after (Err (ends.Write failed)) = status.WriteFault
status_after (Err (ends.Disk failed)) = status.DiskFault
status_after (Err (ends.Damaged damage)) = status.Damaged
status_after (Err ends.TooLong) = status.InputTooLong

-- memory was wanting to read the words, and nothing was called
abbrev pub IsUnread : {O : Type 0} → Status → O → O → Type 0
IsUnread ended before now = (ended ≡ status.OutOfMemory) × (now ≡ before)

-- a call of the disk failed
abbrev pub IsDiskEnd : SessionEnd → Type 0
IsDiskEnd (ends.Disk failed) = Unit {0}
IsDiskEnd _ = ⊥

-- all was done, or memory was wanting
abbrev pub IsWhole : Status → Type 0
IsWhole status.Done = Unit {0}
IsWhole status.DoneWithRefusals = Unit {0}
IsWhole status.OutOfMemory = Unit {0}
IsWhole _ = ⊥

abbrev pub number_of : Status → ℕ
number_of status.Done = 0
number_of status.DoneWithRefusals = 1
number_of status.Usage = 2
number_of status.ReadFault = 3
number_of status.WriteFault = 4
number_of status.DiskFault = 5
number_of status.Damaged = 6
number_of status.OutOfMemory = 7
number_of status.InputTooLong = 8

-- the line that standard error gets
abbrev pub message_of : Status → Option (List ℕ)
message_of status.Done = None
message_of status.DoneWithRefusals = None
message_of status.Usage = Some (codes "st80: usage: st80 [--budget N] [--keep K] FOLDER COMMAND [ARGUMENTS]")
message_of status.ReadFault = Some (codes "st80: read fault")
message_of status.WriteFault = Some (codes "st80: write fault")
message_of status.DiskFault = Some (codes "st80: disk fault")
message_of status.Damaged = Some (codes "st80: damaged")
message_of status.OutOfMemory = Some (codes "st80: out of memory")
message_of status.InputTooLong = Some (codes "st80: input too long")
