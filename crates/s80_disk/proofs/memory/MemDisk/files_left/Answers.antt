use Rattle.s80_disk.specs.Memory.{first_files, events_of}
use Rattle.s80_disk.proofs.Held.{each_file, all_hold}
use Rattle.s80_disk.proofs.memory.MemDisk.files_left.Goals as goal

pub returns-clause-left : goal.returns-clause-left
returns-clause-left c =
    all_hold (first_files c.args.self.now) (events_of c.args.self.now) _
    (each_file _ c.in_ok-mark.ensures.held c.in_ok-log0.ensures.held c.in_ok-log1.ensures.held c.in_ok-image0.ensures.held c.in_ok-image1.ensures.held)

pub returns-clause-torn : goal.returns-clause-torn
returns-clause-torn c more =
    each_file _ (c.in_ok-mark.ensures.torn more) (c.in_ok-log0.ensures.torn more) (c.in_ok-log1.ensures.torn more) (c.in_ok-image0.ensures.torn more) (c.in_ok-image1.ensures.torn more)
