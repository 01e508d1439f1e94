-- The changes at the places so far are added.
use Rattle.std.proofs.Common.{◌≡◌, ◌++◌, IsTrue, List, take}
use Rattle.s80_change.specs.declared.change.Change.{Change}
use Rattle.s80_disk.specs.Untouched.{IsUntouched}
use Rattle.s80_log.specs.Log.{held_in}
use Rattle.s80_keeper.specs.ChangesAt.{BeginAt}
use Rattle.s80_keeper.proofs.keeper.Keeper.add_changes_at.Given as goal

abbrev pub invariant-loop-place : goal.invariant-loop-place
invariant-loop-place g l = record {
  read : IsTrue (g.D.Disk.tells l.fn.disk) → (more : List Change) × (l.changes ≡ l.fn.changes ++ more) × BeginAt (held_in (g.D.Disk.reads l.fn.disk) l.fn.self.log) (take l.place-index l.places) more;
  same : l.self ≡ l.fn.self;
  untouched : IsUntouched g.D.Disk.tells g.D.Disk.reads g.D.Disk.may_leave g.D.Disk.moment g.D.Disk.left_since g.D.Disk.beside g.D.Disk.disk_faults l.fn.disk l.disk;
  faults_stay : g.D.Disk.disk_faults l.disk ≡ g.D.Disk.disk_faults l.fn.disk;
}
