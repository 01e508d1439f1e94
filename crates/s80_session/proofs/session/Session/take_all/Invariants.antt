use Rattle.std.proofs.Common.{◌≡◌, ◌≤◌, ◌-◌, [], ℕ, List, Some, length, false}
use Rattle.s80_chunk.specs.Held.{fed}
use Rattle.s80_model.specs.Replies.{Work}
use Rattle.s80_session.specs.Ending.{NoFewer}
use Rattle.s80_session.specs.Run.{input_limit}
use Rattle.s80_session.specs.Known.{IsKnowing}
use Rattle.s80_session.specs.Session.{IsResting, RunSince, Was}
use Rattle.s80_session.specs.Working.{HasReadSome, IsDone}
use Rattle.s80_session.proofs.Works.{TakesOn}
use Rattle.s80_session.proofs.session.Session.take_all.Given as goal

abbrev pub invariant-pieces : goal.invariant-pieces
invariant-pieces g l = record {
  takes : (was : Was) (work : Work) (input before : List ℕ) → (g.O.Outside.shown l.fn.outside).left ≡ Some input
      → IsDone (g.O.Disk.may_leave l.fn.outside) (g.O.Outside.shown l.fn.outside) l.fn.self l.fn.reader was work before [] []
      → TakesOn g.O.Disk.moment g.O.Disk.left_since g.O.Disk.may_leave g.O.Outside.shown l.fn.outside l.outside l.self l.reader was work input before;
  last_run : RunSince l.fn.self l.self;
  later : NoFewer (g.O.Outside.faults l.fn.outside) (g.O.Outside.faults l.outside);
  faults_stay : g.O.Outside.faults l.outside ≡ g.O.Outside.faults l.fn.outside;
  reading : HasReadSome l.reader;
  opened : l.reader.ended ≡ false;
  room : l.reader.room ≡ 4096;
  counted : fed l.reader ≡ l.taken;
  within : l.taken ≤ input_limit;
  buffer : length l.buf ≡ 65536;
  resting : IsResting l.self;
  tells : (g.O.Outside.shown l.outside).tells ≡ (g.O.Outside.shown l.fn.outside).tells;
  known : IsKnowing (g.O.Outside.shown l.fn.outside) l.fn.self → IsKnowing (g.O.Outside.shown l.outside) l.self;
}

abbrev pub decreases-pieces : goal.decreases-pieces
decreases-pieces g l = input_limit - l.taken
