-- A log, and the bytes of it that count.
use Rattle.std.specs.Prelude.{ℕ, List, take, ◌==◌, if◌then◌else◌}
use Rattle.s80_disk.specs.declared.disk.FileId.{FileId}
use Rattle.s80_disk.specs.declared.disk.FileId.TheVariants.{Log0, Log1}
use Rattle.s80_disk.specs.Image.{Image}

-- a log by its number, and how many of its bytes count
pub record LogEnd : Type 0 where
  pub number : ℕ
  pub end : ℕ

-- the file of a log, by its number
abbrev pub log_file : ℕ → FileId
log_file number = if number == 0 then Log0 else Log1

-- the bytes of a log that count; where its file is shorter, those that are there
abbrev pub held_in : Image → LogEnd → List ℕ
held_in files log = take log.end (files (log_file log.number))
