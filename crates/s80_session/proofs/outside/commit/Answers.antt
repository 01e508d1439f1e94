use Rattle.std.proofs.Common.{ap, ◌∙◌}
use Rattle.std.specs.Prelude.{⊤}
use Rattle.s80_disk.specs.Moments.{Beside}
use Rattle.s80_disk.proofs.lemmas.Run.{weaker}
use Rattle.s80_disk.proofs.lemmas.Showing.{but_for_files, but_for_disk}
use Rattle.s80_keeper.specs.Standing.{LeavesEither}
use Rattle.s80_log.specs.Commit.{LeavesBeside}
use Rattle.s80_log.specs.Log.{log_file}
use Rattle.s80_session.proofs.outside.commit.Goals as goal

pub returns-clause-committed : goal.returns-clause-committed
returns-clause-committed g c = rw (g.met.O.Outside.shown_is c.args.outside.now, g.met.O.Outside.shown_is c.commit.new.disk) c.commit.ensures.committed

pub returns-clause-any_moment : goal.returns-clause-any_moment
returns-clause-any_moment g c =
    let D = g.O.Disk in
    let o = c.args.outside.now in
    let same = ap (λ (b : Beside). b.told) (g.met.O.Outside.beside_is o) in
    rw (g.met.O.Outside.shown_is o) (λ kept all keeps. weaker D.moment D.left_since o c.commit.new.disk _ (LeavesEither (g.O.Sink.told o) kept all) (c.commit.ensures.any_moment kept all keeps) (λ told image h. record { told_is = h.told_is ∙ same; files = h.files }))

pub returns-clause-elsewhere : goal.returns-clause-elsewhere
returns-clause-elsewhere g c =
    let D = g.O.Disk in
    let o = c.args.outside.now in
    let log = log_file c.args.keeper.now.log.number in
    let same = ap (λ (b : Beside). b.told) (g.met.O.Outside.beside_is o) in
    rw (g.met.O.Outside.shown_is o) (weaker D.moment D.left_since o c.commit.new.disk (LeavesBeside (D.may_leave o) (D.beside o).told log (λ c. ⊤)) (LeavesBeside (D.may_leave o) (g.O.Sink.told o) log (λ c. ⊤)) c.commit.ensures.elsewhere (λ told image h. record { told_is = h.told_is ∙ same; here = h.here; image = h.image; was = h.was; others = h.others }))

pub returns-clause-others : goal.returns-clause-others
returns-clause-others g c = rw (g.met.O.Outside.shown_is c.args.outside.now, g.met.O.Outside.shown_is c.commit.new.disk) c.commit.ensures.others

pub returns-clause-shown : goal.returns-clause-shown
returns-clause-shown g c = but_for_files g.met.O.Outside.beside_is g.met.O.Outside.shown_is c.args.outside.now c.commit.new.disk c.commit.ensures.tells c.commit.ensures.beside

pub returns-clause-faults : goal.returns-clause-faults
returns-clause-faults g c = but_for_disk g.met.O.Outside.beside_is g.met.O.Outside.faults_is c.args.outside.now c.commit.new.disk c.commit.ensures.beside

pub returns-clause-later : goal.returns-clause-later
returns-clause-later g c = rw (g.met.O.Outside.faults_is c.args.outside.now, g.met.O.Outside.faults_is c.commit.new.disk) c.commit.ensures.later

pub returns-clause-cause : goal.returns-clause-cause
returns-clause-cause g c = rw (g.met.O.Outside.faults_is c.args.outside.now, g.met.O.Outside.faults_is c.commit.new.disk) c.commit.ensures.cause

pub returns-clause-faults_stay : goal.returns-clause-faults_stay
returns-clause-faults_stay g c = rw (g.met.O.Outside.faults_is c.args.outside.now, g.met.O.Outside.faults_is c.commit.new.disk) c.commit.ensures.faults_stay

-- ---- what is known stays known
pub returns-clause-written : goal.returns-clause-written
returns-clause-written g c = rw (g.met.O.Outside.shown_is c.args.outside.now, g.met.O.Outside.shown_is c.commit.new.disk) c.commit.ensures.written
