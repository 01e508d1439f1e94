-- What the calls of a source, a sink and a clock leave of the disk that is one object with them.
use Rattle.std.specs.Prelude.{◌≡◌, ℕ, Bool}
use Rattle.s80_disk.specs.declared.disk.FileId.{FileId}
use Rattle.s80_disk.specs.Image.{Image}
use Rattle.s80_disk.specs.Moments.{Beside, Elapses}

-- the files, and what a crash may leave of them now, stay; time goes on as for a call of the disk
pub record FilesStay {D : Type 0} (tells : D → Bool) (reads : D → Image) (may_leave : D → Image → Type 0) (moment : D → ℕ) (left_since : D → ℕ → ℕ → Image → Type 0) (disk_faults : D → ℕ) (beside : D → Beside) (old new : D) : Type 0 where
  pub tells_same : tells new ≡ tells old
  pub reads_same : (file : FileId) → reads new file ≡ reads old file
  pub crash : (c : Image) → may_leave new c → may_leave old c
  pub time : Elapses moment left_since may_leave beside old new
  pub no_fault : disk_faults new ≡ disk_faults old

-- no moment is added
pub record NoMoment {D : Type 0} (moment : D → ℕ) (left_since : D → ℕ → ℕ → Image → Type 0) (old new : D) : Type 0 where
  pub same : moment new ≡ moment old
  pub past : (t told : ℕ) (c : Image) → left_since new t told c → left_since old t told c

-- a take leaves the output and the clock
pub record OutputStays (old new : Beside) : Type 0 where
  pub taken : new.taken ≡ old.taken
  pub told : new.told ≡ old.told
  pub write_faults : new.write_faults ≡ old.write_faults
  pub seconds : new.seconds ≡ old.seconds

-- a put leaves the input and the clock
pub record InputStays (old new : Beside) : Type 0 where
  pub left : new.left ≡ old.left
  pub read_faults : new.read_faults ≡ old.read_faults
  pub seconds : new.seconds ≡ old.seconds
