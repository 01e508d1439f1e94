use Rattle.std.proofs.Common.{◌≡◌, ◌-◌, ◌≤◌, IsTrue, length}
use Rattle.s80_disk.specs.Untouched.{IsUntouched}
use Rattle.s80_log.specs.Log.{log_file, held_in}
use Rattle.s80_keeper.specs.Beginning.{Beginning}
use Rattle.s80_keeper.specs.Reading.{HasBegun}
use Rattle.s80_keeper.proofs.Replayed.{ReplayedTo}
use Rattle.s80_keeper.proofs.start.replay.Given as goal

abbrev pub invariant-loop-reached : goal.invariant-loop-reached
invariant-loop-reached g l = record {
  replayed : (from : Beginning) → HasBegun from l.fn.begun → IsTrue (g.D.Disk.tells l.fn.disk) → l.log.end ≤ length (g.D.Disk.reads l.fn.disk (log_file l.log.number))
      → ReplayedTo from l.fn.begun.history (held_in (g.D.Disk.reads l.fn.disk) l.log) l.reached.at l.reached.count l.reached.system l.reached.history;
  few : l.reached.count ≤ l.reached.at;
  within : l.reached.at ≤ l.log.end;
  untouched : IsUntouched g.D.Disk.tells g.D.Disk.reads g.D.Disk.may_leave g.D.Disk.moment g.D.Disk.left_since g.D.Disk.beside g.D.Disk.disk_faults l.fn.disk l.disk;
  faults_stay : g.D.Disk.disk_faults l.disk ≡ g.D.Disk.disk_faults l.fn.disk;
}

abbrev pub decreases-loop-reached : goal.decreases-loop-reached
decreases-loop-reached g l = l.log.end - l.reached.at
