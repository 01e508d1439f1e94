use Rattle.std.proofs.Common.{ap, arith}
use Rattle.s80_disk.specs.Moments.{Beside}
use Rattle.s80_disk.proofs.lemmas.Run.{weaker}
use Rattle.s80_disk.proofs.lemmas.Showing.{but_for_disk, nothing_shown}
use Rattle.s80_session.specs.Putting.{IsAsBefore}
use Rattle.s80_session.proofs.outside.read_block.Goals as goal

pub returns-clause-block : goal.returns-clause-block
returns-clause-block g c = rw (g.met.O.Outside.shown_is c.args.outside.now) c.block_at.ensures.block

pub returns-clause-any_moment : goal.returns-clause-any_moment
returns-clause-any_moment g c =
    let D = g.O.Disk in
    let o = c.args.outside.now in
    let same = ap (λ (b : Beside). b.told) (g.met.O.Outside.beside_is o) in
    rw (g.met.O.Outside.shown_is o) (weaker D.moment D.left_since o c.block_at.new.disk _ (IsAsBefore (D.may_leave o) (g.O.Sink.told o) 0) c.block_at.ensures.untouched.any_moment (λ told image h. record { no_fewer = omega (arith, h.told_is, same); no_more = omega (arith, h.told_is, same); was = h.was }))

pub returns-clause-shown : goal.returns-clause-shown
returns-clause-shown g c =
    let still = c.block_at.ensures.untouched in
    nothing_shown g.met.O.Outside.beside_is g.met.O.Outside.shown_is c.args.outside.now c.block_at.new.disk still.telling still.same still.rest

pub returns-clause-faults : goal.returns-clause-faults
returns-clause-faults g c = but_for_disk g.met.O.Outside.beside_is g.met.O.Outside.faults_is c.args.outside.now c.block_at.new.disk c.block_at.ensures.untouched.rest

pub returns-clause-later : goal.returns-clause-later
returns-clause-later g c = rw (g.met.O.Outside.faults_is c.args.outside.now, g.met.O.Outside.faults_is c.block_at.new.disk) c.block_at.ensures.untouched.later

pub returns-clause-cause : goal.returns-clause-cause
returns-clause-cause g c = rw (g.met.O.Outside.faults_is c.args.outside.now, g.met.O.Outside.faults_is c.block_at.new.disk) c.block_at.ensures.cause

pub returns-clause-faults_stay : goal.returns-clause-faults_stay
returns-clause-faults_stay g c = rw (g.met.O.Outside.faults_is c.args.outside.now, g.met.O.Outside.faults_is c.block_at.new.disk) c.block_at.ensures.faults_stay
