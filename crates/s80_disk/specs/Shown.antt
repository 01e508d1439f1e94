-- What an outside shows, and how often its calls failed.
use Rattle.std.specs.Prelude.{ℕ, Bool, List, Option}
use Rattle.s80_disk.specs.Image.{Image}

-- whether it tells its contents, what its files read, what is left of its input, the bytes that it took and their number, and the seconds
-- of its clock, where it tells them
pub record Shown : Type 0 where
  pub tells : Bool
  pub files : Image
  pub left : Option (List ℕ)
  pub taken : Option (List ℕ)
  pub told : ℕ
  pub seconds : Option ℕ

-- how often a read, a write and a call of the disk have failed
pub record Faults : Type 0 where
  pub read : ℕ
  pub write : ℕ
  pub disk : ℕ
