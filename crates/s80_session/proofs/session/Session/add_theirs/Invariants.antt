-- The changes so far are added, and those that the iterator has yet wait.
use Rattle.std.proofs.Common.{◌≡◌, ◌+◌, ◌<◌, ◌^◌, ℕ, List, [], length}
use Rattle.std.specs.Prelude.{All}
use Rattle.std.specs.Vec.Iter.{into_iter_items, into_iter_len}
use Rattle.s80_change.specs.Block.{IsLawful}
use Rattle.s80_disk.specs.Moments.{LeavesOnly}
use Rattle.s80_joining.specs.declared.outcome.Outcome.TheVariants as outcomes
use Rattle.s80_model.specs.Replies.{Work}
use Rattle.s80_session.specs.Ending.{NoFewer}
use Rattle.s80_session.specs.Known.{IsKnowing}
use Rattle.s80_session.specs.Merging.{IsJoining, JoinKeeps}
use Rattle.s80_session.specs.Session.{held_of, HasSameRest, IsFaultless}
use Rattle.s80_session.specs.Working.{IsAt}
use Rattle.s80_session.proofs.session.Session.add_theirs.Given as goal

abbrev pub invariant-loop-change : goal.invariant-loop-change
invariant-loop-change g l = record {
  joins : (work : Work) (put : List ℕ) → IsAt (g.O.Disk.may_leave l.fn.outside) (g.O.Outside.shown l.fn.outside) l.fn.self work put
      → IsJoining (g.O.Disk.may_leave l.outside) (g.O.Outside.shown l.outside) l.self work put (into_iter_items l.initial.change-iterator) l.yielded (into_iter_items l.change-iterator)
      × LeavesOnly g.O.Disk.moment g.O.Disk.left_since l.fn.outside l.outside (JoinKeeps work (outcomes.Joins (into_iter_items l.initial.change-iterator)) put);
  items_left : into_iter_len l.change-iterator ≡ length (into_iter_items l.change-iterator);
  lawful : All IsLawful (into_iter_items l.change-iterator);
  counted : l.count ≡ length l.yielded;
  within : l.count + length (into_iter_items l.change-iterator) ≡ length (into_iter_items l.initial.change-iterator);
  few : length (into_iter_items l.initial.change-iterator) < 2 ^ 63;
  unheld : held_of l.self ≡ [];
  rest : HasSameRest l.fn.self l.self;
  left : (g.O.Outside.shown l.outside).left ≡ (g.O.Outside.shown l.fn.outside).left;
  tells : (g.O.Outside.shown l.outside).tells ≡ (g.O.Outside.shown l.fn.outside).tells;
  later : NoFewer (g.O.Outside.faults l.fn.outside) (g.O.Outside.faults l.outside);
  faults_stay : g.O.Outside.faults l.outside ≡ g.O.Outside.faults l.fn.outside;
  faultless : IsFaultless l.self;
  known : IsKnowing (g.O.Outside.shown l.fn.outside) l.fn.self → IsKnowing (g.O.Outside.shown l.outside) l.self;
}
