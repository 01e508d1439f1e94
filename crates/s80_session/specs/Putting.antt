-- What puts leave, one after another.
use Rattle.std.specs.Prelude.{◌≡◌, ◌≤◌, ◌+◌, ℕ, Option, List, length, take}
use Rattle.std.specs.Io.KnownBytes.{Appends}
use Rattle.s80_disk.specs.Image.{Image}

-- a crash leaves what it might leave before, with at least as many bytes told and at most so many more
pub record IsAsBefore (before : Image → Type 0) (told_before more told : ℕ) (c : Image) : Type 0 where
  pub no_fewer : told_before ≤ told
  pub no_more : told ≤ told_before + more
  pub was : before c

-- the front of a piece was put, as long as the count of bytes told says
pub record PutsFront (taken_before taken_now : Option (List ℕ)) (told_before told_now : ℕ) (piece : List ℕ) : Type 0 where
  pub count : ℕ
  pub no_more : count ≤ length piece
  pub bytes : Appends taken_before taken_now (take count piece)
  pub told : told_now ≡ told_before + count
