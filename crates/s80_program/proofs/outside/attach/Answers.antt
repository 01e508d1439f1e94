use Rattle.std.proofs.Common.{arith}
use Rattle.s80_disk.proofs.lemmas.Run.{started, goes_on}
use Rattle.s80_disk.proofs.lemmas.Showing.{told_beside, nothing_shown, but_for_disk}
use Rattle.s80_session.specs.Putting.{IsAsBefore}
use Rattle.s80_program.proofs.outside.attach.Goals as goal

pub returns-clause-shown : goal.returns-clause-shown
returns-clause-shown g c = nothing_shown g.met.O.Outside.beside_is g.met.O.Outside.shown_is c.args.outside.now c.attach.new.self c.attach.ensures.tells c.attach.ensures.same c.attach.ensures.beside

pub returns-clause-faults : goal.returns-clause-faults
returns-clause-faults g c = but_for_disk g.met.O.Outside.beside_is g.met.O.Outside.faults_is c.args.outside.now c.attach.new.self c.attach.ensures.beside

pub returns-clause-cause : goal.returns-clause-cause
returns-clause-cause g c = rw (g.met.O.Outside.faults_is c.args.outside.now, g.met.O.Outside.faults_is c.attach.new.self) c.attach.ensures.cause

pub returns-clause-any_moment : goal.returns-clause-any_moment
returns-clause-any_moment g c =
    let D = g.O.Disk in
    let o = c.args.outside.now in
    let new = c.attach.new.self in
    let same = told_beside g.met.O.Outside.beside_is g.met.O.Outside.shown_is o in
    let same_now = told_beside g.met.O.Outside.beside_is g.met.O.Outside.shown_is new in
    let P = IsAsBefore (D.may_leave o) (g.O.Outside.shown o).told 0 in
    goes_on D.moment D.left_since D.may_leave D.beside o o new P (started D.moment D.left_since o P (λ told image left. let h = g.met.O.Disk.only_now o told image left in record { no_fewer = omega (arith, h.1, same); no_more = omega (arith, h.1, same); was = h.0 })) c.attach.ensures.time (λ image left. let b = c.attach.ensures.beside in record { no_fewer = rw b (omega (arith, same)); no_more = rw b (omega (arith, same)); was = c.attach.ensures.crash image left })
