use Rattle.std.proofs.Common.{◌≡◌, ◌-◌, ◌<◌}
use Rattle.s80_disk.specs.Untouched.{IsUntouched}
use Rattle.s80_log.proofs.log.Log.read_block.Given as goal

abbrev pub invariant-pieces : goal.invariant-pieces
invariant-pieces g l = record {
  positive : 0 < l.size;
  untouched : IsUntouched g.D.Disk.tells g.D.Disk.reads g.D.Disk.may_leave g.D.Disk.moment g.D.Disk.left_since g.D.Disk.beside g.D.Disk.disk_faults l.fn.disk l.disk;
  faults_stay : g.D.Disk.disk_faults l.disk ≡ g.D.Disk.disk_faults l.fn.disk;
}

abbrev pub decreases-pieces : goal.decreases-pieces
decreases-pieces g l = l.within - l.size
