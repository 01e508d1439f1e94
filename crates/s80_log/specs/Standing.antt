-- Files and disks that stand for a list of changes.
use Rattle.std.specs.Prelude.{◌≡◌, ℕ, Bool, IsTrue, List, length, take, Some}
use Rattle.s80_change.specs.declared.change.Change.{Change}
use Rattle.s80_change.specs.Block.{blocks, IsList}
use Rattle.s80_disk.specs.declared.disk.FileId.TheVariants.{Mark}
use Rattle.s80_disk.specs.Image.{Image, Only}
use Rattle.s80_mark.specs.declared.mark.MarkState.{MarkState}
use Rattle.s80_mark.specs.Mark.{format_two, valid_mark}
use Rattle.s80_mark.specs.Found.{HasLawfulNumbers}
use Rattle.s80_log.specs.Log.{log_file}

-- the bytes that a mark takes of the log that it names
abbrev pub marked_part : MarkState → Image → List ℕ
marked_part mark files = take mark.log_length (files (log_file mark.log))

-- The valid mark is this one, its numbers are lawful, the part of the log that it takes is the blocks of the list, whole, and a mark that
-- counts changes counts those of the list.
pub record FilesStandFor (files : Image) (mark : MarkState) (changes : List Change) : Type 0 where
  pub valid : valid_mark (files Mark) ≡ Some mark
  pub numbers : HasLawfulNumbers mark
  pub list : IsList changes
  pub whole : mark.log_length ≡ length (blocks changes)
  pub bytes : marked_part mark files ≡ blocks changes
  pub counted : mark.format ≡ format_two → mark.count ≡ length changes

-- What the disk reads stands for the list, and every crash now leaves the mark file and the marked part of the log as they read.
pub record StandsFor (tells : Bool) (reads : Image) (may_leave : Image → Type 0) (mark : MarkState) (changes : List Change) : Type 0 where
  pub told : IsTrue tells
  pub files : FilesStandFor reads mark changes
  pub mark_stays : Only Mark (reads Mark) may_leave
  pub log_stays : (c : Image) → may_leave c → marked_part mark c ≡ marked_part mark reads

-- What the disk reads stands for the list, and every crash now leaves the marked part of the log as it reads. The mark need not be on the
-- disk: a commit that broke off leaves such a disk.
pub record ReadsFor (tells : Bool) (reads : Image) (may_leave : Image → Type 0) (mark : MarkState) (changes : List Change) : Type 0 where
  pub told : IsTrue tells
  pub files : FilesStandFor reads mark changes
  pub log_stays : (c : Image) → may_leave c → marked_part mark c ≡ marked_part mark reads
