use Rattle.std.proofs.Common.{◌++◌, ◌∷◌, [], ap, ◌∙◌}
use Rattle.s80_disk.specs.Moments.{Beside}
use Rattle.s80_disk.proofs.lemmas.Run.{weaker}
use Rattle.s80_disk.proofs.lemmas.Showing.{but_for_files, but_for_disk}
use Rattle.s80_keeper.specs.Imaged.{image_file}
use Rattle.s80_keeper.specs.Snapshot.{LeavesApart, note, other_image}
use Rattle.s80_keeper.specs.Standing.{LeavesEither}
use Rattle.s80_log.specs.Log.{log_file}
use Rattle.s80_session.proofs.outside.snapshot.Goals as goal

pub returns-clause-kept : goal.returns-clause-kept
returns-clause-kept g c = rw (g.met.O.Outside.shown_is c.args.outside.now, g.met.O.Outside.shown_is c.snapshot.new.disk) c.snapshot.ensures.kept

pub returns-clause-any_moment : goal.returns-clause-any_moment
returns-clause-any_moment g c =
    let D = g.O.Disk in
    let o = c.args.outside.now in
    let same = ap (λ (b : Beside). b.told) (g.met.O.Outside.beside_is o) in
    rw (g.met.O.Outside.shown_is o) (λ changes keeps. weaker D.moment D.left_since o c.snapshot.new.disk _ (LeavesEither (g.O.Sink.told o) changes (changes ++ note ∷ [])) (c.snapshot.ensures.any_moment changes keeps) (λ told image h. record { told_is = h.told_is ∙ same; files = h.files }))

pub returns-clause-written : goal.returns-clause-written
returns-clause-written g c = rw (g.met.O.Outside.shown_is c.args.outside.now, g.met.O.Outside.shown_is c.snapshot.new.disk) c.snapshot.ensures.written

pub returns-clause-elsewhere : goal.returns-clause-elsewhere
returns-clause-elsewhere g c =
    let D = g.O.Disk in
    let o = c.args.outside.now in
    let log = log_file c.args.keeper.now.log.number in
    let image = image_file (other_image c.args.keeper.now.mark.image) in
    let same = ap (λ (b : Beside). b.told) (g.met.O.Outside.beside_is o) in
    rw (g.met.O.Outside.shown_is o) (weaker D.moment D.left_since o c.snapshot.new.disk (LeavesApart (D.may_leave o) (D.beside o).told log image) (LeavesApart (D.may_leave o) (g.O.Sink.told o) log image) c.snapshot.ensures.elsewhere (λ told files h. record { told_is = h.told_is ∙ same; left = h.left; was = h.was; others = h.others }))

pub returns-clause-others : goal.returns-clause-others
returns-clause-others g c = rw (g.met.O.Outside.shown_is c.args.outside.now, g.met.O.Outside.shown_is c.snapshot.new.disk) c.snapshot.ensures.others

pub returns-clause-shown : goal.returns-clause-shown
returns-clause-shown g c = but_for_files g.met.O.Outside.beside_is g.met.O.Outside.shown_is c.args.outside.now c.snapshot.new.disk c.snapshot.ensures.tells c.snapshot.ensures.beside

pub returns-clause-faults : goal.returns-clause-faults
returns-clause-faults g c = but_for_disk g.met.O.Outside.beside_is g.met.O.Outside.faults_is c.args.outside.now c.snapshot.new.disk c.snapshot.ensures.beside

pub returns-clause-later : goal.returns-clause-later
returns-clause-later g c = rw (g.met.O.Outside.faults_is c.args.outside.now, g.met.O.Outside.faults_is c.snapshot.new.disk) c.snapshot.ensures.later

pub returns-clause-cause : goal.returns-clause-cause
returns-clause-cause g c = rw (g.met.O.Outside.faults_is c.args.outside.now, g.met.O.Outside.faults_is c.snapshot.new.disk) c.snapshot.ensures.cause

pub returns-clause-faults_stay : goal.returns-clause-faults_stay
returns-clause-faults_stay g c = rw (g.met.O.Outside.faults_is c.args.outside.now, g.met.O.Outside.faults_is c.snapshot.new.disk) c.snapshot.ensures.faults_stay
