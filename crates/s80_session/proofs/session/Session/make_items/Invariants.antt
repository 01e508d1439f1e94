use Rattle.std.proofs.Common.{◌≡◌, ℕ, List, []}
use Rattle.s80_disk.specs.Moments.{LeavesOnly}
use Rattle.s80_model.specs.Replies.{Work}
use Rattle.s80_session.specs.Ending.{NoFewer}
use Rattle.s80_session.specs.Known.{IsKnowing}
use Rattle.s80_session.specs.Making.{IsMaking, MakeKeeps}
use Rattle.s80_session.specs.Session.{held_of, was_of, HasLittle, IsFaultless, RunSince}
use Rattle.s80_session.specs.Working.{IsAt}
use Rattle.s80_session.proofs.session.Session.make_items.Given as goal

abbrev pub invariant-loop-number : goal.invariant-loop-number
invariant-loop-number g l = record {
  makes : (work : Work) (put : List ℕ) → IsAt (g.O.Disk.may_leave l.fn.outside) (g.O.Outside.shown l.fn.outside) l.fn.self work put
      → IsMaking (g.O.Disk.may_leave l.outside) (g.O.Outside.shown l.outside) l.self (was_of l.fn.self) work put l.classes l.number l.tally
      × LeavesOnly g.O.Disk.moment g.O.Disk.left_since l.fn.outside l.outside (MakeKeeps work l.classes put);
  unheld : held_of l.self ≡ [];
  left : (g.O.Outside.shown l.outside).left ≡ (g.O.Outside.shown l.fn.outside).left;
  tells : (g.O.Outside.shown l.outside).tells ≡ (g.O.Outside.shown l.fn.outside).tells;
  last_run : RunSince l.fn.self l.self;
  later : NoFewer (g.O.Outside.faults l.fn.outside) (g.O.Outside.faults l.outside);
  faults_stay : g.O.Outside.faults l.outside ≡ g.O.Outside.faults l.fn.outside;
  faultless : IsFaultless l.self;
  little : HasLittle l.self;
  known : IsKnowing (g.O.Outside.shown l.fn.outside) l.fn.self → IsKnowing (g.O.Outside.shown l.outside) l.self;
}
