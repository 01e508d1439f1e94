-- A front of the list was read, and their base is known; nothing else changed.
use Rattle.std.proofs.Common.{◌≡◌, ◌-◌, ◌≤◌, IsTrue, List, ℕ, length}
use Rattle.s80_change.specs.declared.change.Change.{Change}
use Rattle.s80_change.specs.Block.{blocks}
use Rattle.s80_disk.specs.Image.{Image}
use Rattle.s80_disk.specs.Moments.{LeavesOnly}
use Rattle.s80_keeper.specs.Keeper.{Knows}
use Rattle.s80_session.specs.Putting.{IsAsBefore}
use Rattle.s80_session.proofs.BaseRead.{HasReadTo}
use Rattle.s80_session.proofs.base.read_base.Given as goal

abbrev pub invariant-loop-at : goal.invariant-loop-at
invariant-loop-at g l = record {
  read : IsTrue (g.O.Outside.shown l.fn.outside).tells → (changes : List Change) → Knows (g.O.Outside.shown l.fn.outside).files l.fn.keeper changes → l.fn.keeper.log.end ≡ length (blocks changes) → HasReadTo l.base changes l.at;
  same : l.keeper ≡ l.fn.keeper;
  images : (c : Image) → g.O.Disk.may_leave l.outside c → g.O.Disk.may_leave l.fn.outside c;
  any_moment : LeavesOnly g.O.Disk.moment g.O.Disk.left_since l.fn.outside l.outside (IsAsBefore (g.O.Disk.may_leave l.fn.outside) (g.O.Outside.shown l.fn.outside).told 0);
  shown : g.O.Outside.shown l.outside ≡ g.O.Outside.shown l.fn.outside;
  faults : g.O.Outside.faults l.outside ≡ g.O.Outside.faults l.fn.outside;
}

abbrev pub decreases-loop-at : goal.decreases-loop-at
decreases-loop-at g l = l.keeper.log.end - l.at
