use Rattle.std.proofs.Common.{◌≡◌, ◌+◌, ◌-◌, ◌≤◌, ℕ, List, length, false}
use Rattle.s80_chunk.specs.declared.item.Item.{Item}
use Rattle.s80_chunk.specs.Held.{fed}
use Rattle.s80_model.specs.Replies.{Work}
use Rattle.s80_session.specs.Ending.{NoFewer}
use Rattle.s80_session.specs.Known.{IsKnowing}
use Rattle.s80_session.specs.Session.{HasLittle, IsFaultless, RunSince, Was}
use Rattle.s80_session.specs.Working.{HasReadSome, IsWorking}
use Rattle.s80_session.proofs.Works.{Feeds}
use Rattle.s80_session.proofs.session.Session.work_piece.Given as goal

abbrev pub invariant-loop-done : goal.invariant-loop-done
invariant-loop-done g l = record {
  feeds : (was : Was) (work : Work) (before bytes : List ℕ) (given : List Item) → IsWorking (g.O.Disk.may_leave l.fn.outside) (g.O.Outside.shown l.fn.outside) l.fn.self l.fn.reader was work before bytes given
      → Feeds g.O.Disk.moment g.O.Disk.left_since g.O.Disk.may_leave g.O.Outside.shown l.fn.outside l.outside l.self l.reader was work before bytes given l.fn.piece l.done;
  reading : HasReadSome l.reader;
  left : (g.O.Outside.shown l.outside).left ≡ (g.O.Outside.shown l.fn.outside).left;
  last_run : RunSince l.fn.self l.self;
  later : NoFewer (g.O.Outside.faults l.fn.outside) (g.O.Outside.faults l.outside);
  faults_stay : g.O.Outside.faults l.outside ≡ g.O.Outside.faults l.fn.outside;
  within : l.done ≤ length l.fn.piece;
  fed : fed l.reader ≡ fed l.fn.reader + l.done;
  room : l.reader.room ≡ 4096;
  opened : l.reader.ended ≡ false;
  faultless : IsFaultless l.self;
  little : HasLittle l.self;
  tells : (g.O.Outside.shown l.outside).tells ≡ (g.O.Outside.shown l.fn.outside).tells;
  known : IsKnowing (g.O.Outside.shown l.fn.outside) l.fn.self → IsKnowing (g.O.Outside.shown l.outside) l.self;
}

abbrev pub decreases-loop-done : goal.decreases-loop-done
decreases-loop-done g l = length l.fn.piece - l.done
