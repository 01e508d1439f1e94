-- What calls that write nothing leave of a disk.
use Rattle.std.specs.Prelude.{◌≡◌, ℕ, ◌≤◌, Bool}
use Rattle.s80_disk.specs.declared.disk.FileId.{FileId}
use Rattle.s80_disk.specs.Image.{Image}
use Rattle.s80_disk.specs.Moments.{Beside, LeavesOnly}

-- this much is told, and the image is one of those before
pub record StillLeft (before : Image → Type 0) (told_before told : ℕ) (c : Image) : Type 0 where
  pub told_is : told ≡ told_before
  pub was : before c

-- Each file reads as before, a crash now or at any moment leaves what it might have left before, and what is told and what is beside the
-- files stay.
pub record IsUntouched {D : Type 0} (tells : D → Bool) (reads : D → Image) (may_leave : D → Image → Type 0) (moment : D → ℕ) (left_since : D → ℕ → ℕ → Image → Type 0) (beside : D → Beside) (disk_faults : D → ℕ) (old new : D) : Type 0 where
  pub telling : tells new ≡ tells old
  pub same : (file : FileId) → reads new file ≡ reads old file
  pub crash : (c : Image) → may_leave new c → may_leave old c
  pub any_moment : LeavesOnly moment left_since old new (StillLeft (may_leave old) (beside old).told)
  pub rest : beside new ≡ beside old
  pub later : disk_faults old ≤ disk_faults new
