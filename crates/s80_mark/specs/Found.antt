-- What is found in the logs and the mark.
use Rattle.std.specs.Prelude.{◌≡◌, ◌≢◌, ◌⊎◌, ◌<◌, ◌≤◌, ℕ, max, [], length, Some, None, Result, Ok, Err, ⊤}
use Rattle.s80_base.specs.declared.outside.Failed.{Failed}
use Rattle.s80_disk.specs.declared.disk.FileId.TheVariants.{Mark, Log0, Log1}
use Rattle.s80_disk.specs.Image.{Image}
use Rattle.s80_mark.specs.declared.mark.MarkState.{MarkState}
use Rattle.s80_mark.specs.declared.read.Found.{Found}
use Rattle.s80_mark.specs.declared.read.Found.TheVariants.{Fresh, Mark as Marked}
use Rattle.s80_mark.specs.declared.read.MarkFault.{MarkFault}
use Rattle.s80_mark.specs.declared.read.MarkFault.TheVariants.{Disk, NoGate, BadField}
use Rattle.s80_mark.specs.Mark.{format_two, valid_mark}

abbrev pub AreLogsEmpty : Image → Type 0
AreLogsEmpty files = (files Log0 ≡ []) × (files Log1 ≡ [])

abbrev pub longer_log : Image → ℕ
longer_log files = max (length (files Log0)) (length (files Log1))

-- the log number is 0 or 1, the image number is 0, 1 or 255, and the format is 0 or 2
pub record HasLawfulNumbers (mark : MarkState) : Type 0 where
  pub log : mark.log ≤ 1
  pub image : (mark.image ≤ 1) ⊎ (mark.image ≡ 255)
  pub format : (mark.format ≡ 0) ⊎ (mark.format ≡ format_two)

-- the first of log number, image number and format that isn't lawful
abbrev pub IsFirstUnlawful : MarkState → ℕ → Type 0
IsFirstUnlawful mark value =
    ((1 < mark.log) × (value ≡ mark.log))
    ⊎ ((mark.log ≤ 1) × (1 < mark.image) × (mark.image ≢ 255) × (value ≡ mark.image))
    ⊎ ((mark.log ≤ 1) × ((mark.image ≤ 1) ⊎ (mark.image ≡ 255)) × (mark.format ≢ 0) × (mark.format ≢ format_two) × (value ≡ mark.format))

-- a mark that is found has lawful numbers
abbrev pub IsLawfulFound : Found → Type 0
IsLawfulFound Fresh = ⊤
IsLawfulFound (Marked mark) = HasLawfulNumbers mark

-- what the files call for, where no call on the disk fails
abbrev pub IsAnswer : Image → Result Found MarkFault → Type 0
IsAnswer files (Ok Fresh) = AreLogsEmpty files
IsAnswer files (Ok (Marked mark)) = (0 < longer_log files) × (valid_mark (files Mark) ≡ Some mark) × HasLawfulNumbers mark
IsAnswer files (Err (NoGate count)) = (0 < longer_log files) × (valid_mark (files Mark) ≡ None) × (count ≡ longer_log files)
IsAnswer files (Err (BadField value)) = (0 < longer_log files) × ((mark : MarkState) × (valid_mark (files Mark) ≡ Some mark) × IsFirstUnlawful mark value)
IsAnswer files (Err (Disk failed)) = ⊤

-- this holds of a failed call on the disk
abbrev pub IfDisk : Result Found MarkFault → (Failed → Type 0) → Type 0
IfDisk (Err (Disk failed)) P = P failed
IfDisk (Err (NoGate count)) P = ⊤
IfDisk (Err (BadField value)) P = ⊤
IfDisk (Ok found) P = ⊤

-- this holds, but where a call on the disk failed
abbrev pub UnlessDisk : Result Found MarkFault → Type 0 → Type 0
UnlessDisk (Err (Disk failed)) P = ⊤
UnlessDisk (Err (NoGate count)) P = P
UnlessDisk (Err (BadField value)) P = P
UnlessDisk (Ok found) P = P

-- a call on the disk failed
abbrev pub IsDiskFault : Result Found MarkFault → Type 0
IsDiskFault result = (failed : Failed) × (result ≡ Err (Disk failed))
