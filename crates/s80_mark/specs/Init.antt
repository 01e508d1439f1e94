-- What the first mark of a folder leaves.
use Rattle.std.specs.Prelude.{◌≡◌, ◌⊎◌, ℕ, [], Some}
use Rattle.s80_disk.specs.declared.disk.FileId.TheVariants.{Mark, Log0, Log1}
use Rattle.s80_disk.specs.Image.{Image, Only}
use Rattle.s80_mark.specs.declared.mark.MarkState.{MarkState}
use Rattle.s80_mark.specs.Mark.{format_two, valid_mark}
use Rattle.s80_mark.specs.Found.{AreLogsEmpty, HasLawfulNumbers}

-- both logs are empty for certain
pub record EmptyLogs (may_leave : Image → Type 0) : Type 0 where
  pub log0 : Only Log0 [] may_leave
  pub log1 : Only Log1 [] may_leave

-- this much is told, and both logs are empty
pub record StaysEmpty (told_before told : ℕ) (c : Image) : Type 0 where
  pub told_is : told ≡ told_before
  pub log0 : c Log0 ≡ []
  pub log1 : c Log1 ≡ []

-- this much is told, and the image is one of those before, or both logs hold in it what they read
pub record SyncsFirst (reads : Image) (before : Image → Type 0) (told_before told : ℕ) (c : Image) : Type 0 where
  pub told_is : told ≡ told_before
  pub logs : before c ⊎ ((c Log0 ≡ reads Log0) × (c Log1 ≡ reads Log1))

-- Files in which no change is kept: both logs are empty, or the valid mark, which is lawful and names no image, takes no byte of its log and
-- counts no change, if it counts them.
abbrev pub KeepNothing : Image → Type 0
KeepNothing files =
    AreLogsEmpty files ⊎ ((mark : MarkState) × (valid_mark (files Mark) ≡ Some mark) × HasLawfulNumbers mark × (mark.image ≡ 255) × (mark.log_length ≡ 0) × (mark.format ≡ format_two → mark.count ≡ 0))

-- this much is told, and no change is kept
pub record StaysWithout (told_before told : ℕ) (c : Image) : Type 0 where
  pub told_is : told ≡ told_before
  pub nothing : KeepNothing c
