use Rattle.std.proofs.Common.{◌≡◌, ◌+◌, ◌-◌, ◌≤◌, ℕ, List, length, false}
use Rattle.s80_apply.specs.State.{State}
use Rattle.s80_chunk.specs.declared.item.Item.{Item}
use Rattle.s80_chunk.specs.Held.{fed}
use Rattle.s80_session.specs.Merging.{HasSome, IsTaking}
use Rattle.s80_session.specs.Working.{HasReadSome}
use Rattle.s80_session.proofs.TakingIn.{TakesParts}
use Rattle.s80_session.proofs.theirs.take_in_piece.Given as goal

abbrev pub invariant-loop-done : goal.invariant-loop-done
invariant-loop-done l = record {
  takes : (state : State) (bytes : List ℕ) (items : List Item) → IsTaking l.fn.given l.fn.reader state bytes items → TakesParts l.given l.reader state bytes items l.fn.piece l.done;
  some : HasSome l.fn.given → HasSome l.given;
  reading : HasReadSome l.reader;
  within : l.done ≤ length l.fn.piece;
  fed : fed l.reader ≡ fed l.fn.reader + l.done;
  room : l.reader.room ≡ 4096;
  opened : l.reader.ended ≡ false;
}

abbrev pub decreases-loop-done : goal.decreases-loop-done
decreases-loop-done l = length l.fn.piece - l.done
