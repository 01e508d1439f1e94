use Rattle.std.proofs.Common.{List, ap, arith}
use Rattle.s80_change.specs.declared.change.Change.{Change}
use Rattle.s80_disk.specs.Moments.{Beside}
use Rattle.s80_disk.proofs.lemmas.Run.{weaker}
use Rattle.s80_disk.proofs.lemmas.Showing.{but_for_disk, nothing_shown}
use Rattle.s80_history.specs.History.{set_places}
use Rattle.s80_session.specs.Putting.{IsAsBefore}
use Rattle.s80_session.proofs.BaseRead.{never_full}
use Rattle.s80_session.proofs.outside.read_set.Goals as goal

pub returns-clause-set : goal.returns-clause-set
returns-clause-set g c = rw (g.met.O.Outside.shown_is c.args.outside.now) c.set_of.ensures.set

pub returns-clause-unfilled : goal.returns-clause-unfilled
returns-clause-unfilled g c = λ count is. never_full (List Change) (set_places c.args.keeper.now.history) c.set_of.result c.set_of.ensures.placed count is

pub returns-clause-any_moment : goal.returns-clause-any_moment
returns-clause-any_moment g c =
    let D = g.O.Disk in
    let o = c.args.outside.now in
    let same = ap (λ (b : Beside). b.told) (g.met.O.Outside.beside_is o) in
    rw (g.met.O.Outside.shown_is o) (weaker D.moment D.left_since o c.set_of.new.disk _ (IsAsBefore (D.may_leave o) (g.O.Sink.told o) 0) c.set_of.ensures.untouched.any_moment (λ told image h. record { no_fewer = omega (arith, h.told_is, same); no_more = omega (arith, h.told_is, same); was = h.was }))

pub returns-clause-shown : goal.returns-clause-shown
returns-clause-shown g c =
    let still = c.set_of.ensures.untouched in
    nothing_shown g.met.O.Outside.beside_is g.met.O.Outside.shown_is c.args.outside.now c.set_of.new.disk still.telling still.same still.rest

pub returns-clause-faults : goal.returns-clause-faults
returns-clause-faults g c = but_for_disk g.met.O.Outside.beside_is g.met.O.Outside.faults_is c.args.outside.now c.set_of.new.disk c.set_of.ensures.untouched.rest

pub returns-clause-later : goal.returns-clause-later
returns-clause-later g c = rw (g.met.O.Outside.faults_is c.args.outside.now, g.met.O.Outside.faults_is c.set_of.new.disk) c.set_of.ensures.untouched.later

pub returns-clause-cause : goal.returns-clause-cause
returns-clause-cause g c = rw (g.met.O.Outside.faults_is c.args.outside.now, g.met.O.Outside.faults_is c.set_of.new.disk) c.set_of.ensures.cause

pub returns-clause-faults_stay : goal.returns-clause-faults_stay
returns-clause-faults_stay g c = rw (g.met.O.Outside.faults_is c.args.outside.now, g.met.O.Outside.faults_is c.set_of.new.disk) c.set_of.ensures.faults_stay
