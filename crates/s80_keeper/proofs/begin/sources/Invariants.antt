-- The sources of the classes so far are read.
use Rattle.std.proofs.Common.{◌≡◌, ◌≤◌, [], IsTrue, length, take}
use Rattle.s80_disk.specs.Untouched.{IsUntouched}
use Rattle.s80_image.specs.Classes.{classes_of}
use Rattle.s80_log.specs.Log.{held_in, log_file}
use Rattle.s80_keeper.specs.ImageReading.{HasAdded, methods_in}
use Rattle.s80_keeper.proofs.begin.sources.Given as goal

abbrev pub invariant-loop-class : goal.invariant-loop-class
invariant-loop-class g l = record {
  added : IsTrue (g.D.Disk.tells l.fn.disk) → l.log.end ≤ length (g.D.Disk.reads l.fn.disk (log_file l.log.number))
      → HasAdded (held_in (g.D.Disk.reads l.fn.disk) l.log) (methods_in (classes_of (take l.class-index l.class-items))) [] l.sources.items;
  untouched : IsUntouched g.D.Disk.tells g.D.Disk.reads g.D.Disk.may_leave g.D.Disk.moment g.D.Disk.left_since g.D.Disk.beside g.D.Disk.disk_faults l.fn.disk l.disk;
  faults_stay : g.D.Disk.disk_faults l.disk ≡ g.D.Disk.disk_faults l.fn.disk;
}
