use Rattle.std.proofs.Common.{length}
use Rattle.s80_session.proofs.UnderWay.{UnderWay}
use Rattle.s80_session.proofs.outside.put_all.Given as goal

abbrev pub invariant-loop-rest : goal.invariant-loop-rest
invariant-loop-rest g l =
    UnderWay g.O.Disk.may_leave g.O.Disk.moment g.O.Disk.left_since g.O.Outside.shown g.O.Outside.faults l.fn.outside l.outside l.piece l.rest

abbrev pub decreases-loop-rest : goal.decreases-loop-rest
decreases-loop-rest g l = length l.rest
