-- What is said of one kind of fault alone.
use Rattle.std.specs.Prelude.{ℕ, Result, Ok, Err, ⊤}
use Rattle.s80_base.specs.declared.outside.Failed.{Failed}
use Rattle.s80_log.specs.declared.log.LogFault.{LogFault}
use Rattle.s80_log.specs.declared.log.LogFault.TheVariants as log_faults
use Rattle.s80_log.specs.declared.read.BlockFault.{BlockFault}
use Rattle.s80_log.specs.declared.read.BlockFault.TheVariants as block_faults

abbrev pub IfLogDisk : LogFault → (Failed → Type 0) → Type 0
IfLogDisk (log_faults.Disk failed) P = P failed
IfLogDisk (log_faults.Full length) P = ⊤

-- this holds, but where a call on the disk failed
abbrev pub UnlessLogDisk : {T : Type 0} → Result T LogFault → Type 0 → Type 0
UnlessLogDisk (Err (log_faults.Disk failed)) P = ⊤
UnlessLogDisk (Err (log_faults.Full length)) P = P
UnlessLogDisk (Ok value) P = P

abbrev pub IfBlockDisk : BlockFault → (Failed → Type 0) → Type 0
IfBlockDisk (block_faults.Disk failed) P = P failed
IfBlockDisk block_faults.Memory P = ⊤
IfBlockDisk (block_faults.Bad place) P = ⊤

abbrev pub UnlessBlockDisk : {T : Type 0} → Result T BlockFault → Type 0 → Type 0
UnlessBlockDisk (Err (block_faults.Disk failed)) P = ⊤
UnlessBlockDisk (Err block_faults.Memory) P = P
UnlessBlockDisk (Err (block_faults.Bad place)) P = P
UnlessBlockDisk (Ok value) P = P

abbrev pub IfBad : BlockFault → (ℕ → Type 0) → Type 0
IfBad (block_faults.Bad place) P = P place
IfBad block_faults.Memory P = ⊤
IfBad (block_faults.Disk failed) P = ⊤
