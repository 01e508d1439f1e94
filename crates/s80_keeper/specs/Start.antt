-- What is found at the start: the list that the files stand for, or the first thing that is wrong with them.
use Rattle.std.specs.Prelude.{◌≡◌, ◌≢◌, ◌⊎◌, ◌+◌, ◌<◌, ◌≤◌, ℕ, Bool, List, [], ◌++◌, All, drop, length, Some, Result, Ok, Err, ⊤}
use Rattle.s80_base.specs.declared.outside.Failed.{Failed}
use Rattle.s80_change.specs.declared.change.Change.{Change}
use Rattle.s80_form.specs.declared.refusal.Refusal.{Refusal}
use Rattle.s80_change.specs.Block.{block, blocks, log_limit, IsLawful}
use Rattle.s80_form.specs.Refusal.{refusal_number}
use Rattle.s80_disk.specs.declared.disk.FileId.TheVariants.{Mark}
use Rattle.s80_disk.specs.Image.{Image}
use Rattle.s80_mark.specs.declared.mark.MarkState.{MarkState}
use Rattle.s80_mark.specs.declared.read.MarkFault.{MarkFault}
use Rattle.s80_mark.specs.declared.read.MarkFault.TheVariants as mark_faults
use Rattle.s80_mark.specs.Mark.{format_two, valid_mark}
use Rattle.s80_mark.specs.Found.{AreLogsEmpty, HasLawfulNumbers, IsAnswer, longer_log}
use Rattle.s80_apply.specs.List.{AreAccepted, refusal_to, state_from}
use Rattle.s80_log.specs.Log.{log_file}
use Rattle.s80_log.specs.Standing.{marked_part}
use Rattle.s80_change.specs.Blocks.{BeginsWithNone}
use Rattle.s80_log.specs.declared.read.BlockFault.{BlockFault}
use Rattle.s80_log.specs.declared.read.BlockFault.TheVariants as block_faults
use Rattle.s80_keeper.specs.declared.start.Damage.{Damage}
use Rattle.s80_keeper.specs.declared.start.Damage.TheVariants.{NoMark, BadMark, LogShort, ImageShort, BadImage, BadBlock, Replay, CountDiffers}
use Rattle.s80_keeper.specs.declared.start.StartFault.{StartFault}
use Rattle.s80_keeper.specs.declared.start.StartFault.TheVariants as faults
use Rattle.s80_keeper.specs.Keeper.{KeeperState, Keeps, Knows}
use Rattle.s80_keeper.specs.Beginning.{Beginning, Begins, IsBadImage}
use Rattle.s80_keeper.specs.Imaged.{image_file}
use Rattle.s80_keeper.specs.Standing.{FilesStandFor, ReadsFor, StandsFor}

-- a log holds something, and this is the valid mark, with lawful numbers
pub record HasMark (files : Image) (mark : MarkState) : Type 0 where
  pub some : 0 < longer_log files
  pub valid : valid_mark (files Mark) ≡ Some mark
  pub numbers : HasLawfulNumbers mark

abbrev pub log_length : Image → MarkState → ℕ
log_length files mark = length (files (log_file mark.log))

abbrev pub image_length : Image → MarkState → ℕ
image_length files mark = length (files (image_file mark.image))

-- The log is as long as the valid mark says, and so is the image that it names, if it names one. Behind what is begun with, which ends within the
-- marked part of the log, this part is the blocks of these changes, each of which is accepted, and what is left behind them.
pub record ReadsTo (files : Image) (mark : MarkState) (begun : Beginning) (changes : List Change) (rest : List ℕ) : Type 0 where
  pub has_mark : HasMark files mark
  pub long : mark.log_length ≤ log_length files mark
  pub imaged : mark.image ≢ 255 → mark.image_length ≤ image_length files mark
  pub begins : Begins files mark begun
  pub reached : begun.position ≤ mark.log_length
  pub lawful : All IsLawful changes
  pub accepted : AreAccepted begun.state changes
  pub within : changes ≢ [] → begun.position + length (blocks changes) ≤ log_limit
  pub bytes : drop begun.position (marked_part mark files) ≡ blocks changes ++ rest

-- the log is as long as the valid mark says, which names an image
pub record NamesImage (files : Image) (mark : MarkState) : Type 0 where
  pub has_mark : HasMark files mark
  pub long : mark.log_length ≤ log_length files mark
  pub named : mark.image ≢ 255

-- what is begun with ends behind the marked part of the log
pub record EndsBehind (files : Image) (mark : MarkState) (begun : Beginning) : Type 0 where
  pub names : NamesImage files mark
  pub imaged : mark.image_length ≤ image_length files mark
  pub begins : Begins files mark begun
  pub over : mark.log_length < begun.position

-- The files have no valid mark, or one that is out of form; the log is shorter than the mark says; the image is; the image isn't one, or isn't
-- consistent; no block begins where one should; the list before a block refuses its change; or all blocks are read, and the mark counts other than so
-- many changes.
abbrev pub IsDamage : Image → Damage → Type 0
IsDamage files (NoMark count) = IsAnswer files (Err (mark_faults.NoGate count))
IsDamage files (BadMark value) = IsAnswer files (Err (mark_faults.BadField value))
IsDamage files (LogShort marked found) = (mark : MarkState) × HasMark files mark × (marked ≡ mark.log_length) × (found ≡ log_length files mark) × (found < marked)
IsDamage files (ImageShort marked found) = (mark : MarkState) × NamesImage files mark × (marked ≡ mark.image_length) × (found ≡ image_length files mark) × (found < marked)
IsDamage files (BadImage place) = (mark : MarkState) × NamesImage files mark × (mark.image_length ≤ image_length files mark) × IsBadImage files mark place
IsDamage files (BadBlock place) =
    ((mark : MarkState) × (begun : Beginning) × EndsBehind files mark begun × (place ≡ begun.position))
    ⊎ ((mark : MarkState) × (begun : Beginning) × (changes : List Change) × (rest : List ℕ) × ReadsTo files mark begun changes rest × (place ≡ begun.position + length (blocks changes)) × (rest ≢ []) × BeginsWithNone rest)
IsDamage files (Replay place number) =
    (mark : MarkState) × (begun : Beginning) × (changes : List Change) × (change : Change) × (rest : List ℕ) × (refusal : Refusal) × ReadsTo files mark begun changes (block change ++ rest)
    × (place ≡ begun.position + length (blocks changes)) × IsLawful change × (refusal_to (state_from begun.state changes) place change ≡ Some refusal) × (number ≡ refusal_number refusal)
IsDamage files (CountDiffers marked found) =
    (mark : MarkState) × (begun : Beginning) × (changes : List Change) × ReadsTo files mark begun changes [] × (mark.format ≡ format_two) × (marked ≡ mark.count) × (found ≡ begun.count + length changes) × (marked ≢ found)

-- Nothing is wrong with files whose mark names an image. They need not stand for a list, as an image may be that of none; where they do, the keeper
-- has what it makes.
pub record IsUndamaged (files : Image) (keeper : KeeperState) : Type 0 where
  pub mark : MarkState
  pub named : mark.image ≢ 255
  pub begun : Beginning
  pub changes : List Change
  pub reads : ReadsTo files mark begun changes []
  pub counted : mark.format ≡ format_two → mark.count ≡ begun.count + length changes
  pub knows : (list : List Change) → FilesStandFor files list → Knows files keeper list

-- what the files call for, where memory is found and no call on the disk fails
abbrev pub IsStart : Image → Result KeeperState StartFault → Type 0
IsStart files (Ok keeper) = ((changes : List Change) × FilesStandFor files changes × Knows files keeper changes) ⊎ IsUndamaged files keeper
IsStart files (Err (faults.Damaged damage)) = IsDamage files damage
IsStart files (Err faults.Memory) = ⊤
IsStart files (Err (faults.Disk failed)) = ⊤

-- after a start on a disk that reads for this list
abbrev pub Started : Result KeeperState StartFault → Bool → Image → (Image → Type 0) → List Change → Type 0
Started (Ok keeper) tells reads may_leave changes = Keeps tells reads may_leave keeper changes changes
Started (Err faults.Memory) tells reads may_leave changes = StandsFor tells reads may_leave changes
Started (Err (faults.Disk failed)) tells reads may_leave changes = ReadsFor tells reads may_leave changes
Started (Err (faults.Damaged damage)) tells reads may_leave changes = ⊥

-- this much is told, and the image is one of those before, or the logs read empty and are empty in it
pub record StartLeaves (reads : Image) (before : Image → Type 0) (told_before told : ℕ) (c : Image) : Type 0 where
  pub told_is : told ≡ told_before
  pub files : before c ⊎ (AreLogsEmpty reads × AreLogsEmpty c)

-- this holds of a failed call on the disk
abbrev pub IfStartDisk : {T : Type 0} → Result T StartFault → (Failed → Type 0) → Type 0
IfStartDisk (Ok value) P = ⊤
IfStartDisk (Err (faults.Disk failed)) P = P failed
IfStartDisk (Err faults.Memory) P = ⊤
IfStartDisk (Err (faults.Damaged damage)) P = ⊤

-- this holds, but where a call on the disk failed
abbrev pub UnlessStartDisk : {T : Type 0} → Result T StartFault → Type 0 → Type 0
UnlessStartDisk (Ok value) P = P
UnlessStartDisk (Err (faults.Disk failed)) P = ⊤
UnlessStartDisk (Err faults.Memory) P = P
UnlessStartDisk (Err (faults.Damaged damage)) P = P

-- what the faults of the calls below are for a start
abbrev pub fault_of_mark : MarkFault → StartFault
fault_of_mark (mark_faults.Disk failed) = faults.Disk failed
fault_of_mark (mark_faults.NoGate count) = faults.Damaged (NoMark count)
fault_of_mark (mark_faults.BadField value) = faults.Damaged (BadMark value)

abbrev pub fault_of_block : BlockFault → StartFault
fault_of_block block_faults.Memory = faults.Memory
fault_of_block (block_faults.Disk failed) = faults.Disk failed
fault_of_block (block_faults.Bad place) = faults.Damaged (BadBlock place)
