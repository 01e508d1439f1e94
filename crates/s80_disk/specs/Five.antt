-- The five files in memory, and what a call makes of their bytes.
use Rattle.std.specs.Prelude.{ℕ, ◌+◌, ◌-◌, ◌≤◌, Bool, List, ◌++◌, length, take, drop, replicate, vec_capacity, if◌then◌else◌, ◌==◌}
use Rattle.s80_disk.specs.declared.disk.FileId.{FileId}
use Rattle.s80_disk.specs.declared.disk.FileId.TheVariants.{Mark, Log0, Log1, Image0, Image1}
use Rattle.s80_disk.specs.declared.five.Five.{Five}
use Rattle.s80_disk.specs.Image.{Image}

abbrev pub image_of : Five → Image
image_of five Mark = five.mark.items
image_of five Log0 = five.log0.items
image_of five Log1 = five.log1.items
image_of five Image0 = five.image0.items
image_of five Image1 = five.image1.items

-- each file can grow to this length
pub record HasRoom (room : ℕ) (five : Five) : Type 0 where
  pub mark : room ≤ vec_capacity five.mark
  pub log0 : room ≤ vec_capacity five.log0
  pub log1 : room ≤ vec_capacity five.log1
  pub image0 : room ≤ vec_capacity five.image0
  pub image1 : room ≤ vec_capacity five.image1

abbrev pub number_of : FileId → ℕ
number_of Mark = 0
number_of Log0 = 1
number_of Log1 = 2
number_of Image0 = 3
number_of Image1 = 4

abbrev pub same_file : FileId → FileId → Bool
same_file file other = number_of file == number_of other

-- one file changes
abbrev pub changed : FileId → (List ℕ → List ℕ) → Image → Image
changed file change image other = if same_file file other then change (image other) else image other

-- zeros behind the bytes, up to a length
abbrev pub filled : ℕ → List ℕ → List ℕ
filled n bytes = bytes ++ replicate (n - length bytes) 0

-- a piece over the bytes at a place
abbrev pub overwritten : ℕ → List ℕ → List ℕ → List ℕ
overwritten at piece bytes = take at (filled at bytes) ++ piece ++ drop (at + length piece) bytes
