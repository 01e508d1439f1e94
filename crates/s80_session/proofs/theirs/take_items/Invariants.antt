use Rattle.std.proofs.Common.{◌≡◌, ℕ, List}
use Rattle.s80_apply.specs.State.{State}
use Rattle.s80_chunk.specs.declared.item.Item.{Item}
use Rattle.s80_chunk.specs.Held.{fed, work_of}
use Rattle.s80_session.specs.Merging.{HasSome, IsTaking}
use Rattle.s80_session.specs.Working.{HasReadSome}
use Rattle.s80_session.proofs.TakingIn.{IsWithin}
use Rattle.s80_session.proofs.theirs.take_items.Given as goal

abbrev pub invariant-loop-item : goal.invariant-loop-item
invariant-loop-item l = record {
  takes : (state : State) (bytes : List ℕ) (items : List Item) → IsTaking l.fn.given l.fn.reader state bytes items → IsWithin l.given l.reader state bytes;
  some : HasSome l.fn.given → HasSome l.given;
  reading : HasReadSome l.reader;
  fed : fed l.reader ≡ fed l.fn.reader;
  ended : l.reader.ended ≡ l.fn.reader.ended;
}

abbrev pub decreases-loop-item : goal.decreases-loop-item
decreases-loop-item l = work_of l.reader
