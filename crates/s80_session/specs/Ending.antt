-- Why a run ends, and what its counts of faults say of that.
use Rattle.std.specs.Prelude.{◌≡◌, ◌⊎◌, ◌≤◌, ℕ, List, Result, Ok, Err}
use Rattle.s80_base.specs.Causes.{Rose}
use Rattle.s80_chunk.specs.declared.item.Item.TheVariants as items
use Rattle.s80_disk.specs.Shown.{Faults}
use Rattle.s80_model.specs.Asked.{AsksPlain, condenses}
use Rattle.s80_model.specs.declared.item.Filed.TheVariants.{Set}
use Rattle.s80_model.specs.declared.item.Query.TheVariants.{Changes, Condense, FileOut, Source, Versions}
use Rattle.s80_model.specs.declared.item.SessionItem.{SessionItem}
use Rattle.s80_model.specs.declared.item.SessionItem.TheVariants.{Chunk, Query}
use Rattle.s80_session.specs.declared.end.SessionEnd.{SessionEnd}
use Rattle.s80_session.specs.declared.end.SessionEnd.TheVariants as ends

-- no count falls
pub record NoFewer (before now : Faults) : Type 0 where
  pub read : before.read ≤ now.read
  pub write : before.write ≤ now.write
  pub disk : before.disk ≤ now.disk

-- A fault is answered only where its count rose, and what is no fault only where no call failed. No damage is met.
abbrev pub HasReason : Faults → Faults → SessionEnd → Type 0
HasReason before now ends.Memory = now ≡ before
HasReason before now (ends.Read failed) = Rose before.read now.read
HasReason before now (ends.Write failed) = Rose before.write now.write
HasReason before now (ends.Disk failed) = Rose before.disk now.disk
HasReason before now (ends.Damaged damage) = ⊥
HasReason before now ends.TooLong = now ≡ before

abbrev pub EndsForReason : {T : Type 0} → Faults → Faults → Result T SessionEnd → Type 0
EndsForReason before now (Ok value) = now ≡ before
EndsForReason before now (Err end) = HasReason before now end

-- the counts of faults before and after a call, and what it answered
pub record Counts {T : Type 0} (before now : Faults) (result : Result T SessionEnd) : Type 0 where
  pub later : NoFewer before now
  pub reason : EndsForReason before now result

-- no damage was met
abbrev pub MeetsNoDamage : {T : Type 0} → Result T SessionEnd → Type 0
MeetsNoDamage (Err (ends.Damaged damage)) = ⊥
MeetsNoDamage _ = Unit {0}

-- where a call of the disk failed, and where one of the output did
abbrev pub IsDiskEnd : SessionEnd → Type 0
IsDiskEnd (ends.Disk failed) = Unit {0}
IsDiskEnd _ = ⊥

abbrev pub IsWriteEnd : SessionEnd → Type 0
IsWriteEnd (ends.Write failed) = Unit {0}
IsWriteEnd _ = ⊥

-- a flush ends so
abbrev pub IsFlushEnd : SessionEnd → Type 0
IsFlushEnd (ends.Disk failed) = Unit {0}
IsFlushEnd (ends.Write failed) = Unit {0}
IsFlushEnd _ = ⊥

-- what keeps or reads ends so: no byte was to be taken or put
abbrev pub IsKeepEnd : SessionEnd → Type 0
IsKeepEnd ends.Memory = Unit {0}
IsKeepEnd (ends.Disk failed) = Unit {0}
IsKeepEnd (ends.Damaged damage) = Unit {0}
IsKeepEnd (ends.Read failed) = ⊥
IsKeepEnd (ends.Write failed) = ⊥
IsKeepEnd ends.TooLong = ⊥

-- work ends so: no byte was to be taken
abbrev pub IsWorkEnd : SessionEnd → Type 0
IsWorkEnd ends.Memory = Unit {0}
IsWorkEnd (ends.Disk failed) = Unit {0}
IsWorkEnd (ends.Damaged damage) = Unit {0}
IsWorkEnd (ends.Write failed) = Unit {0}
IsWorkEnd (ends.Read failed) = ⊥
IsWorkEnd ends.TooLong = ⊥

-- this holds where all went well, or memory was wanting
abbrev pub OnOkOrMemory : {T : Type 0} → Result T SessionEnd → Type 0 → Type 0
OnOkOrMemory (Ok value) P = P
OnOkOrMemory (Err ends.Memory) P = P
OnOkOrMemory (Err _) P = Unit {0}

-- the same where the log is read again: it may be damaged
abbrev pub EndsForReasonOrDamage : {T : Type 0} → Faults → Faults → Result T SessionEnd → Type 0
EndsForReasonOrDamage before now (Err (ends.Damaged damage)) = now ≡ before
EndsForReasonOrDamage before now result = EndsForReason before now result

pub record SourceCounts {T : Type 0} (before now : Faults) (result : Result T SessionEnd) : Type 0 where
  pub later : NoFewer before now
  pub reason : EndsForReasonOrDamage before now result

-- the same of a plain text: it is so where the text asks to condense
abbrev pub TextCounts : {T : Type 0} → List ℕ → Faults → Faults → Result T SessionEnd → Type 0
TextCounts text before now result = Counts before now result ⊎ (AsksPlain text condenses × SourceCounts before now result)

-- the counts of faults before and after an item
abbrev pub CountsFor : {T : Type 0} → SessionItem → Faults → Faults → Result T SessionEnd → Type 0
CountsFor (Query (Source spec selector)) before now result = SourceCounts before now result
CountsFor (Query (Versions spec selector)) before now result = SourceCounts before now result
CountsFor (Query Changes) before now result = SourceCounts before now result
CountsFor (Query (FileOut Set)) before now result = SourceCounts before now result
CountsFor (Query Condense) before now result = SourceCounts before now result
CountsFor (Chunk (items.Plain text)) before now result = TextCounts text before now result
CountsFor item before now result = Counts before now result

-- the same for a start: it meets no fault of the input or the output
abbrev pub StartsForReason : {T : Type 0} → Faults → Faults → Result T SessionEnd → Type 0
StartsForReason before now (Ok value) = now ≡ before
StartsForReason before now (Err ends.Memory) = now ≡ before
StartsForReason before now (Err (ends.Disk failed)) = Rose before.disk now.disk
StartsForReason before now (Err (ends.Damaged damage)) = now ≡ before
StartsForReason before now (Err (ends.Read failed)) = ⊥
StartsForReason before now (Err (ends.Write failed)) = ⊥
StartsForReason before now (Err ends.TooLong) = ⊥
