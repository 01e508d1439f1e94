-- What a commit does to the mark file.
use Rattle.std.specs.Prelude.{◌≡◌, ◌⊎◌, ℕ, ◌+◌, ◌%◌, ◌^◌, Bool, IsTrue, Some}
use Rattle.s80_disk.specs.declared.disk.FileId.TheVariants.{Mark}
use Rattle.s80_disk.specs.Image.{Image, Only}
use Rattle.s80_disk.specs.Moments.{ComesFrom}
use Rattle.s80_mark.specs.declared.mark.MarkState.{MarkState}
use Rattle.s80_mark.specs.Mark.{valid_mark}
use Rattle.s80_mark.specs.Stays.{Anything}

-- the disk tells its files, the mark file has this valid mark for certain, and the next mark follows it
pub record CanCommit (tells : Bool) (reads : Image) (may_leave : Image → Type 0) (old next : MarkState) : Type 0 where
  pub told : IsTrue tells
  pub valid : valid_mark (reads Mark) ≡ Some old
  pub durable : Only Mark (reads Mark) may_leave
  pub follows : next.sequence ≡ (old.sequence + 1) % 2 ^ 64

-- the other files are as a crash might have left them before, and after a commit that could be made the mark file has the old mark or the next
pub record HasEither (tells : Bool) (reads : Image) (before : Image → Type 0) (told_before : ℕ) (old next : MarkState) (told : ℕ) (c : Image) : Type 0 where
  pub from : ComesFrom before told_before Mark Anything told c
  pub mark : CanCommit tells reads before old next → (valid_mark (c Mark) ≡ Some old) ⊎ (valid_mark (c Mark) ≡ Some next)
