use Rattle.std.proofs.Common.{◌≡◌, ◌≤◌, ℕ, List, length, vec_capacity}
use Rattle.s80_disk.specs.declared.disk.FileId.{FileId}
use Rattle.s80_disk.specs.declared.memory.MemDisk.{MemDisk}
use Rattle.s80_disk.specs.History.{contents}
use Rattle.s80_disk.specs.Memory.{first_files, file_room, events_until}
use Rattle.s80_disk.proofs.memory.MemDisk.file_after.Given as goal

-- the calls so far are done
pub record Redone (disk : MemDisk) (file : FileId) (i : ℕ) (bytes : List ℕ) (capacity : ℕ) : Type 0 where
  pub is : bytes ≡ contents (first_files disk) (events_until disk i) file
  pub fits : length bytes ≤ file_room disk
  pub room : file_room disk ≤ capacity

abbrev pub invariant-loop-call : goal.invariant-loop-call
invariant-loop-call l = Redone l.self l.file l.call-index l.bytes.items (vec_capacity l.bytes)
