use Rattle.s80_disk.proofs.Steps.{uncut}
use Rattle.s80_disk.proofs.Pushed.{followed_by_itself}
use Rattle.s80_disk.proofs.memory.calls.MemDiskDisk.cut.Goals as goal

pub returns-then-fails-clause-crash : goal.returns-then-fails-clause-crash
returns-then-fails-clause-crash c = followed_by_itself _ _ _ (λ bytes. uncut c.args.to bytes)
