-- The changes so far are taken in, and the list that is kept stands.
use Rattle.std.proofs.Common.{◌≡◌, [], List, take}
use Rattle.s80_change.specs.declared.change.Change.{Change}
use Rattle.s80_change.specs.Block.{IsList}
use Rattle.s80_disk.specs.Moments.{LeavesOnly}
use Rattle.s80_apply.specs.List.{IsBuilt}
use Rattle.s80_log.specs.Log.{log_file}
use Rattle.s80_keeper.specs.Renewing.{HasWritten, IsBeside, IsElsewhere, grown}
use Rattle.s80_keeper.specs.Standing.{LeavesFor}
use Rattle.s80_keeper.proofs.keeper.Keeper.add_all.Given as goal

abbrev pub invariant-loop-i : goal.invariant-loop-i
invariant-loop-i g l = record {
  added : (kept : List Change) → IsBeside (g.D.Disk.tells l.fn.disk) (g.D.Disk.reads l.fn.disk) (g.D.Disk.may_leave l.fn.disk) l.fn.self kept [] → IsList l.changes → IsBuilt l.changes
      → LeavesOnly g.D.Disk.moment g.D.Disk.left_since l.fn.disk l.disk (LeavesFor (g.D.Disk.beside l.fn.disk).told kept)
      × IsBeside (g.D.Disk.tells l.disk) (g.D.Disk.reads l.disk) (g.D.Disk.may_leave l.disk) l.self kept (take l.i l.changes);
  written : HasWritten (g.D.Disk.tells l.fn.disk) (g.D.Disk.reads l.fn.disk) l.fn.self [] → IsList l.changes → IsBuilt l.changes → HasWritten (g.D.Disk.tells l.disk) (g.D.Disk.reads l.disk) l.self (take l.i l.changes);
  same : l.self ≡ grown l.fn.self l.self;
  elsewhere : IsElsewhere g.D.Disk.tells g.D.Disk.reads g.D.Disk.may_leave g.D.Disk.moment g.D.Disk.left_since g.D.Disk.beside g.D.Disk.disk_faults (log_file l.fn.self.log.number) l.fn.disk l.disk;
  faults_stay : g.D.Disk.disk_faults l.disk ≡ g.D.Disk.disk_faults l.fn.disk;
}
