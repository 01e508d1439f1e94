-- The sources of the methods so far are added.
use Rattle.std.proofs.Common.{◌≡◌, ◌≤◌, IsTrue, length, take}
use Rattle.s80_disk.specs.Untouched.{IsUntouched}
use Rattle.s80_image.specs.Methods.{methods_of}
use Rattle.s80_log.specs.Log.{held_in, log_file}
use Rattle.s80_keeper.specs.ImageReading.{HasAdded}
use Rattle.s80_keeper.proofs.begin.add_sources.Given as goal

abbrev pub invariant-loop-method : goal.invariant-loop-method
invariant-loop-method g l = record {
  added : IsTrue (g.D.Disk.tells l.fn.disk) → l.log.end ≤ length (g.D.Disk.reads l.fn.disk (log_file l.log.number))
      → HasAdded (held_in (g.D.Disk.reads l.fn.disk) l.log) (methods_of (take l.method-index l.methods)) l.fn.sources.items l.sources.items;
  untouched : IsUntouched g.D.Disk.tells g.D.Disk.reads g.D.Disk.may_leave g.D.Disk.moment g.D.Disk.left_since g.D.Disk.beside g.D.Disk.disk_faults l.fn.disk l.disk;
  faults_stay : g.D.Disk.disk_faults l.disk ≡ g.D.Disk.disk_faults l.fn.disk;
}
