-- What is added of the methods so far.
use Rattle.std.proofs.Common.{◌≡◌, ◌++◌, IsTrue, List, length}
use Rattle.std.specs.List.{flat_map}
use Rattle.std.specs.Vec.Iter.{into_iter_items, into_iter_len}
use Rattle.s80_change.specs.declared.change.Change.{Change}
use Rattle.s80_disk.specs.Untouched.{IsUntouched}
use Rattle.s80_fileout.specs.Order.{of_listed}
use Rattle.s80_keeper.specs.Keeper.{Knows}
use Rattle.s80_keeper.proofs.keeper.Keeper.add_each.Given as goal

abbrev pub invariant-loop-listed : goal.invariant-loop-listed
invariant-loop-listed g l = record {
  items : l.yielded ++ into_iter_items l.listed-iterator ≡ into_iter_items l.initial.listed-iterator;
  left : into_iter_len l.listed-iterator ≡ length (into_iter_items l.listed-iterator);
  added : IsTrue (g.D.Disk.tells l.fn.disk) → (list : List Change) → Knows (g.D.Disk.reads l.fn.disk) l.fn.self list → l.changes ≡ l.fn.changes ++ flat_map (of_listed l.keep list) l.yielded;
  same : l.self ≡ l.fn.self;
  untouched : IsUntouched g.D.Disk.tells g.D.Disk.reads g.D.Disk.may_leave g.D.Disk.moment g.D.Disk.left_since g.D.Disk.beside g.D.Disk.disk_faults l.fn.disk l.disk;
  faults_stay : g.D.Disk.disk_faults l.disk ≡ g.D.Disk.disk_faults l.fn.disk;
}
