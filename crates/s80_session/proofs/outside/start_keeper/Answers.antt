use Rattle.std.proofs.Common.{ap, ◌∙◌, arith}
use Rattle.s80_disk.specs.Moments.{Beside}
use Rattle.s80_disk.proofs.lemmas.Run.{weaker}
use Rattle.s80_disk.proofs.lemmas.Showing.{but_for_files, but_for_disk}
use Rattle.s80_keeper.specs.Standing.{LeavesEither}
use Rattle.s80_keeper.specs.Start.{StartLeaves}
use Rattle.s80_session.specs.Run.{HasKept}
use Rattle.s80_session.proofs.outside.start_keeper.Goals as goal

pub returns-clause-answer : goal.returns-clause-answer
returns-clause-answer g c = rw (g.met.O.Outside.shown_is c.args.outside.now) c.start.ensures.answer

pub returns-clause-started : goal.returns-clause-started
returns-clause-started g c = rw (g.met.O.Outside.shown_is c.args.outside.now, g.met.O.Outside.shown_is c.start.new.disk) c.start.ensures.started

pub returns-clause-untouched : goal.returns-clause-untouched
returns-clause-untouched g c = rw (g.met.O.Outside.shown_is c.args.outside.now, g.met.O.Outside.shown_is c.start.new.disk) c.start.ensures.untouched

pub returns-clause-others : goal.returns-clause-others
returns-clause-others g c = rw (g.met.O.Outside.shown_is c.args.outside.now, g.met.O.Outside.shown_is c.start.new.disk) c.start.ensures.others

pub returns-clause-shown : goal.returns-clause-shown
returns-clause-shown g c = but_for_files g.met.O.Outside.beside_is g.met.O.Outside.shown_is c.args.outside.now c.start.new.disk c.start.ensures.tells c.start.ensures.beside

pub returns-clause-faults : goal.returns-clause-faults
returns-clause-faults g c = but_for_disk g.met.O.Outside.beside_is g.met.O.Outside.faults_is c.args.outside.now c.start.new.disk c.start.ensures.beside

pub returns-clause-any_moment : goal.returns-clause-any_moment
returns-clause-any_moment g c =
    let D = g.O.Disk in
    let o = c.args.outside.now in
    let same = ap (λ (b : Beside). b.told) (g.met.O.Outside.beside_is o) in
    rw (g.met.O.Outside.shown_is o) (λ changes stands. weaker D.moment D.left_since o c.start.new.disk _ (HasKept changes (g.O.Sink.told o)) (c.start.ensures.stands changes stands) (λ told image h. record { no_more = omega (arith, h.told_is, same); files = h.files }))

pub returns-clause-killed : goal.returns-clause-killed
returns-clause-killed g c =
    let D = g.O.Disk in
    let o = c.args.outside.now in
    let same = ap (λ (b : Beside). b.told) (g.met.O.Outside.beside_is o) in
    rw (g.met.O.Outside.shown_is o) (λ changes was reads images. weaker D.moment D.left_since o c.start.new.disk _ (LeavesEither (g.O.Sink.told o) changes was) (c.start.ensures.killed changes was reads images) (λ told image h. record { told_is = h.told_is ∙ same; files = h.files }))

pub returns-clause-leaves : goal.returns-clause-leaves
returns-clause-leaves g c =
    let D = g.O.Disk in
    let o = c.args.outside.now in
    let same = ap (λ (b : Beside). b.told) (g.met.O.Outside.beside_is o) in
    rw (g.met.O.Outside.shown_is o) (λ tells. weaker D.moment D.left_since o c.start.new.disk _ (StartLeaves (D.reads o) (D.may_leave o) (g.O.Sink.told o)) (c.start.ensures.any_moment tells) (λ told image h. record { told_is = h.told_is ∙ same; files = h.files }))

pub returns-clause-later : goal.returns-clause-later
returns-clause-later g c = rw (g.met.O.Outside.faults_is c.args.outside.now, g.met.O.Outside.faults_is c.start.new.disk) c.start.ensures.later

pub returns-clause-cause : goal.returns-clause-cause
returns-clause-cause g c = rw (g.met.O.Outside.faults_is c.args.outside.now, g.met.O.Outside.faults_is c.start.new.disk) c.start.ensures.cause

pub returns-clause-faults_stay : goal.returns-clause-faults_stay
returns-clause-faults_stay g c = rw (g.met.O.Outside.faults_is c.args.outside.now, g.met.O.Outside.faults_is c.start.new.disk) c.start.ensures.faults_stay

-- ---- what is known stays known
pub returns-clause-whole : goal.returns-clause-whole
returns-clause-whole g c = rw (g.met.O.Outside.shown_is c.args.outside.now, g.met.O.Outside.shown_is c.start.new.disk) c.start.ensures.whole
