use Rattle.std.proofs.Common.{◌≡◌, ◌≤◌, ◌-◌, [], ℕ, List, Some, length, false}
use Rattle.s80_apply.specs.State.{State}
use Rattle.s80_chunk.specs.Held.{fed}
use Rattle.s80_disk.specs.Image.{Image}
use Rattle.s80_disk.specs.Moments.{LeavesOnly}
use Rattle.s80_session.specs.Ending.{NoFewer}
use Rattle.s80_session.specs.Merging.{HasSome, IsTaking}
use Rattle.s80_session.specs.Putting.{IsAsBefore}
use Rattle.s80_session.specs.Run.{input_limit}
use Rattle.s80_session.specs.Working.{HasReadSome}
use Rattle.s80_session.proofs.TakingIn.{TakesFront}
use Rattle.s80_session.proofs.theirs.take_pieces.Given as goal

abbrev pub invariant-pieces : goal.invariant-pieces
invariant-pieces g l = record {
  takes : (state : State) (input : List ℕ) → (g.O.Outside.shown l.fn.outside).left ≡ Some input → IsTaking l.fn.given l.fn.reader state [] [] → TakesFront l.given l.reader (g.O.Outside.shown l.outside) state input;
  some : HasSome l.fn.given → HasSome l.given;
  shown : g.O.Outside.shown l.outside ≡ record (g.O.Outside.shown l.fn.outside) { left = (g.O.Outside.shown l.outside).left };
  images : (c : Image) → g.O.Disk.may_leave l.outside c → g.O.Disk.may_leave l.fn.outside c;
  run : LeavesOnly g.O.Disk.moment g.O.Disk.left_since l.fn.outside l.outside (IsAsBefore (g.O.Disk.may_leave l.fn.outside) (g.O.Outside.shown l.fn.outside).told 0);
  later : NoFewer (g.O.Outside.faults l.fn.outside) (g.O.Outside.faults l.outside);
  faults_stay : g.O.Outside.faults l.outside ≡ g.O.Outside.faults l.fn.outside;
  reading : HasReadSome l.reader;
  opened : l.reader.ended ≡ false;
  room : l.reader.room ≡ 4096;
  counted : fed l.reader ≡ l.taken;
  within : l.taken ≤ input_limit;
  buffer : length l.buf ≡ 65536;
}

abbrev pub decreases-pieces : goal.decreases-pieces
decreases-pieces g l = input_limit - l.taken
