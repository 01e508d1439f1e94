-- Files and disks that stand for a list of changes.
use Rattle.std.specs.Prelude.{◌≡◌, ◌⊎◌, ℕ, Bool, IsTrue, List, []}
use Rattle.s80_change.specs.declared.change.Change.{Change}
use Rattle.s80_disk.specs.Image.{Image}
use Rattle.s80_mark.specs.declared.mark.MarkState.{MarkState}
use Rattle.s80_mark.specs.Found.{AreLogsEmpty}
use Rattle.s80_mark.specs.Init.{EmptyLogs}
use Rattle.s80_apply.specs.List.{IsBuilt}
use Rattle.s80_keeper.specs.Imaged.{HasImage, KeepsImage}
use Rattle.s80_log.specs.Standing.{FilesStandFor as StandByMark, StandsFor as StandsByMark, marked_part}

-- Both logs are empty, and so is the list; or the part of the log that the valid mark takes is the blocks of the list, each of whose changes is
-- accepted by those before it, the mark counts these changes, if it is one that counts, and the image that it names, if it names one, is that of
-- a front of the list.
abbrev pub FilesStandFor : Image → List Change → Type 0
FilesStandFor files changes = (AreLogsEmpty files × (changes ≡ [])) ⊎ ((mark : MarkState) × StandByMark files mark changes × HasImage files mark changes × IsBuilt changes)

-- What the disk reads stands for the list, and every crash now leaves both logs empty, or leaves the mark file and the marked parts of the
-- log and of the image as they read.
pub record StandsFor (tells : Bool) (reads : Image) (may_leave : Image → Type 0) (changes : List Change) : Type 0 where
  pub told : IsTrue tells
  pub stands : (AreLogsEmpty reads × EmptyLogs may_leave × (changes ≡ [])) ⊎ ((mark : MarkState) × StandsByMark tells reads may_leave mark changes × KeepsImage reads may_leave mark changes × IsBuilt changes)

-- What the disk reads stands for the list, and every crash now leaves the marked parts of the log and of the image as they read. The mark need
-- not be on the disk yet: a run that was killed as it committed leaves such a disk.
pub record ReadsFor (tells : Bool) (reads : Image) (may_leave : Image → Type 0) (changes : List Change) : Type 0 where
  pub told : IsTrue tells
  pub stands : (AreLogsEmpty reads × (changes ≡ [])) ⊎ ((mark : MarkState) × StandByMark reads mark changes × KeepsImage reads may_leave mark changes × IsBuilt changes × ((c : Image) → may_leave c → marked_part mark c ≡ marked_part mark reads))

-- this much is told, and the files stand for this list
pub record LeavesFor (told_before : ℕ) (changes : List Change) (told : ℕ) (c : Image) : Type 0 where
  pub told_is : told ≡ told_before
  pub files : FilesStandFor c changes

-- this much is told, and the files stand for the one list or for the other
pub record LeavesEither (told_before : ℕ) (changes other : List Change) (told : ℕ) (c : Image) : Type 0 where
  pub told_is : told ≡ told_before
  pub files : FilesStandFor c changes ⊎ FilesStandFor c other

-- A commit broke off: the disk reads for the one list or for the other, and a crash now leaves files that stand for one of the two.
pub record ReadsForEither (tells : Bool) (reads : Image) (may_leave : Image → Type 0) (changes other : List Change) : Type 0 where
  pub stands : ReadsFor tells reads may_leave changes ⊎ ReadsFor tells reads may_leave other
  pub images : (c : Image) → may_leave c → FilesStandFor c changes ⊎ FilesStandFor c other
