use Rattle.std.proofs.Common.{◌+◌, ◌≤◌, ℕ, List, length, vec_capacity}
use Rattle.s80_disk.specs.declared.disk.FileId.{FileId}
use Rattle.s80_disk.specs.declared.memory.MemDisk.{MemDisk}
use Rattle.s80_disk.specs.Memory.{first_files, file_room, events_until}
use Rattle.s80_disk.proofs.Spread.{Stands}
use Rattle.s80_disk.proofs.memory.MemDisk.file_torn.Given as goal

-- the calls so far are torn
pub record Torn (disk : MemDisk) (file : FileId) (choice i : ℕ) (bytes : List ℕ) (capacity : ℕ) : Type 0 where
  pub stands : Stands (first_files disk) (events_until disk i) file choice bytes
  pub fits : length bytes ≤ file_room disk
  pub room : file_room disk ≤ capacity

abbrev pub invariant-loop-call : goal.invariant-loop-call
invariant-loop-call l = Torn l.self l.file l.choice (l.synced + l.call-index) l.bytes.items (vec_capacity l.bytes)
