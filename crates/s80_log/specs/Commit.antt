-- What appended blocks and a commit make of a disk that stands for a list of changes.
use Rattle.std.specs.Prelude.{◌≡◌, ◌≢◌, ◌⊎◌, ℕ, ◌+◌, ◌-◌, ◌%◌, ◌^◌, ◌≤◌, Bool, List, length}
use Rattle.s80_change.specs.declared.change.Change.{Change}
use Rattle.s80_change.specs.Block.{blocks, IsList}
use Rattle.s80_disk.specs.declared.disk.FileId.{FileId}
use Rattle.s80_disk.specs.declared.disk.FileId.TheVariants.{Mark}
use Rattle.s80_disk.specs.Image.{Image}
use Rattle.s80_mark.specs.declared.mark.MarkState.{MarkState}
use Rattle.s80_mark.specs.Mark.{format_two}
use Rattle.s80_mark.specs.Found.{HasLawfulNumbers}
use Rattle.s80_log.specs.Log.{LogEnd, held_in}
use Rattle.s80_log.specs.Standing.{FilesStandFor, ReadsFor, StandsFor}

-- the mark after this one, which takes the log to its end and counts so many changes; what it says of an image stays
abbrev pub next_mark : MarkState → LogEnd → ℕ → MarkState
next_mark mark log count = record mark {
  sequence = (mark.sequence + 1) % 2 ^ 64;
  log = log.number;
  log_length = log.end;
  format = format_two;
  count = count;
}

-- the same, and it names the image of this number, which has so many bytes and is that of all of the log's changes
abbrev pub imaged_mark : MarkState → LogEnd → ℕ → ℕ → ℕ → MarkState
imaged_mark mark log count image size = record (next_mark mark log count) {
  image = image;
  image_length = size;
  image_position = log.end;
}

-- the mark after this one, by which this log counts alone, to its end and with so many changes; no image is named
abbrev pub fresh_mark : MarkState → LogEnd → ℕ → MarkState
fresh_mark mark log count = record (next_mark mark log count) {
  image = 255;
  image_length = 0;
  image_position = 0;
}

-- The disk stands for the list that is kept, the log is the one that the mark names, and up to its end it reads as the blocks of all changes.
pub record Holds (tells : Bool) (reads : Image) (may_leave : Image → Type 0) (log : LogEnd) (mark : MarkState) (kept all : List Change) : Type 0 where
  pub stands : StandsFor tells reads may_leave mark kept
  pub named : mark.log ≡ log.number
  pub ahead : mark.log_length ≤ log.end
  pub list : IsList all
  pub whole : log.end ≡ length (blocks all)
  pub bytes : held_in reads log ≡ blocks all

-- The disk stands for the list that is kept, by a mark that names the other log, and up to its end this one reads as the blocks of all changes.
pub record HoldsBeside (tells : Bool) (reads : Image) (may_leave : Image → Type 0) (log : LogEnd) (mark : MarkState) (kept all : List Change) : Type 0 where
  pub stands : StandsFor tells reads may_leave mark kept
  pub named : mark.log ≡ 1 - log.number
  pub number : log.number ≤ 1
  pub list : IsList all
  pub whole : log.end ≡ length (blocks all)
  pub bytes : held_in reads log ≡ blocks all

-- The disk stands for the list that is kept, and up to its end the log reads as the blocks of all changes, whichever log the mark names.
pub record Carries (tells : Bool) (reads : Image) (may_leave : Image → Type 0) (log : LogEnd) (mark : MarkState) (kept all : List Change) : Type 0 where
  pub stands : StandsFor tells reads may_leave mark kept
  pub list : IsList all
  pub whole : log.end ≡ length (blocks all)
  pub bytes : held_in reads log ≡ blocks all

-- The next mark follows this one, its numbers are lawful, and it takes the log to its end and counts all changes.
pub record Takes (log : LogEnd) (all : List Change) (mark next : MarkState) : Type 0 where
  pub follows : next.sequence ≡ (mark.sequence + 1) % 2 ^ 64
  pub numbers : HasLawfulNumbers next
  pub named : next.log ≡ log.number
  pub reached : next.log_length ≡ log.end
  pub counted : next.count ≡ length all

-- This much is told, the image has P, and but for the mark and one log its files are those of an image that a crash might leave before.
pub record LeavesBeside (before : Image → Type 0) (told_before : ℕ) (log : FileId) (P : Image → Type 0) (told : ℕ) (c : Image) : Type 0 where
  pub told_is : told ≡ told_before
  pub here : P c
  pub image : Image
  pub was : before image
  pub others : (other : FileId) → other ≢ Mark → other ≢ log → c other ≡ image other

-- the files stand for the one list by the one mark, or for the other by the other
abbrev pub StandForEither : MarkState → List Change → MarkState → List Change → Image → Type 0
StandForEither mark kept next all c = FilesStandFor c mark kept ⊎ FilesStandFor c next all

-- the disk reads for the one list by the one mark, or for the other by the other
abbrev pub ReadForEither : Bool → Image → (Image → Type 0) → MarkState → List Change → MarkState → List Change → Type 0
ReadForEither tells reads may_leave mark kept next all = ReadsFor tells reads may_leave mark kept ⊎ ReadsFor tells reads may_leave next all
