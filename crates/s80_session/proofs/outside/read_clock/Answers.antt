use Rattle.std.proofs.Common.{inl, arith}
use Rattle.s80_disk.proofs.lemmas.Showing.{told_beside}
use Rattle.s80_session.proofs.outside.read_clock.Goals as goal

pub returns-clause-any_moment : goal.returns-clause-any_moment
returns-clause-any_moment g c =
    let o = c.args.outside.now in
    let moment = c.time_now.ensures.moment in
    let same = told_beside g.met.O.Outside.beside_is g.met.O.Outside.shown_is o in
    record {
      later = omega (arith, moment.same);
      each = λ told image left. let h = g.met.O.Disk.only_now o told image (moment.past (g.O.Disk.moment o) told image left) in record { no_fewer = omega (arith, h.1, same); no_more = omega (arith, h.1, same); was = h.0 };
      before = λ t told image le left. inl (moment.past t told image left);
    }
