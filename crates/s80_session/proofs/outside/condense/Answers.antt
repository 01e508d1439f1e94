use Rattle.std.proofs.Common.{◌-◌, ℕ, List, IsTrue, ap, subst, ◌∙◌}
use Rattle.std.specs.Prelude.{⊤}
use Rattle.s80_apply.specs.List.{IsBuilt}
use Rattle.s80_change.specs.declared.change.Change.{Change}
use Rattle.s80_disk.specs.Moments.{Beside, LeavesOnly}
use Rattle.s80_disk.proofs.lemmas.Run.{weaker}
use Rattle.s80_disk.proofs.lemmas.Showing.{but_for_files, but_for_disk}
use Rattle.s80_fileout.specs.Condensed.{kept}
use Rattle.s80_keeper.specs.Condensing.{Condensed, IfReplaced}
use Rattle.s80_keeper.specs.Keeper.{Keeps, Knows}
use Rattle.s80_keeper.specs.Renewing.{HasWritten}
use Rattle.s80_keeper.specs.Standing.{LeavesEither}
use Rattle.s80_log.specs.Commit.{LeavesBeside}
use Rattle.s80_log.specs.Log.{log_file}
use Rattle.s80_session.proofs.outside.condense.Goals as goal

pub returns-clause-condensed : goal.returns-clause-condensed
returns-clause-condensed g c =
    let D = g.O.Disk in
    let o = c.args.outside.now in
    let new = c.condense.new.disk in
    let P : ℕ → Type 0 = λ n. (changes : List Change) → Keeps (D.tells o) (D.reads o) (D.may_leave o) c.args.keeper.now changes changes → Condensed c.condense.result (D.tells new) (D.reads new) (D.may_leave new) c.condense.new.self changes (kept changes n) in
    rw (g.met.O.Outside.shown_is o, g.met.O.Outside.shown_is new) (subst P c.get.ensures.value c.condense.ensures.condensed)

pub returns-clause-any_moment : goal.returns-clause-any_moment
returns-clause-any_moment g c =
    let D = g.O.Disk in
    let o = c.args.outside.now in
    let new = c.condense.new.disk in
    let same = ap (λ (b : Beside). b.told) (g.met.O.Outside.beside_is o) in
    let P : ℕ → Type 0 = λ n. (changes : List Change) → Keeps (D.tells o) (D.reads o) (D.may_leave o) c.args.keeper.now changes changes → LeavesOnly D.moment D.left_since o new (LeavesEither (D.beside o).told changes (kept changes n)) in
    let run = subst P c.get.ensures.value c.condense.ensures.any_moment in
    rw (g.met.O.Outside.shown_is o) (λ changes keeps. weaker D.moment D.left_since o new _ (LeavesEither (g.O.Sink.told o) changes (kept changes _)) (run changes keeps) (λ told image h. record { told_is = h.told_is ∙ same; files = h.files }))

pub returns-clause-known : goal.returns-clause-known
returns-clause-known g c =
    let D = g.O.Disk in
    let o = c.args.outside.now in
    let new = c.condense.new.disk in
    let P : ℕ → Type 0 = λ n. IsTrue (D.tells o) → (changes : List Change) → IsBuilt changes → Knows (D.reads o) c.args.keeper.now changes → IfReplaced c.condense.result (HasWritten (D.tells new) (D.reads new) c.condense.new.self (kept changes n)) in
    rw (g.met.O.Outside.shown_is o, g.met.O.Outside.shown_is new) (subst P c.get.ensures.value c.condense.ensures.known)

pub returns-clause-elsewhere : goal.returns-clause-elsewhere
returns-clause-elsewhere g c =
    let D = g.O.Disk in
    let o = c.args.outside.now in
    let log = log_file (1 - c.args.keeper.now.log.number) in
    let same = ap (λ (b : Beside). b.told) (g.met.O.Outside.beside_is o) in
    rw (g.met.O.Outside.shown_is o) (weaker D.moment D.left_since o c.condense.new.disk (LeavesBeside (D.may_leave o) (D.beside o).told log (λ c. ⊤)) (LeavesBeside (D.may_leave o) (g.O.Sink.told o) log (λ c. ⊤)) c.condense.ensures.elsewhere (λ told image h. record { told_is = h.told_is ∙ same; here = h.here; image = h.image; was = h.was; others = h.others }))

pub returns-clause-others : goal.returns-clause-others
returns-clause-others g c = rw (g.met.O.Outside.shown_is c.args.outside.now, g.met.O.Outside.shown_is c.condense.new.disk) c.condense.ensures.others

pub returns-clause-shown : goal.returns-clause-shown
returns-clause-shown g c = but_for_files g.met.O.Outside.beside_is g.met.O.Outside.shown_is c.args.outside.now c.condense.new.disk c.condense.ensures.tells c.condense.ensures.beside

pub returns-clause-faults : goal.returns-clause-faults
returns-clause-faults g c = but_for_disk g.met.O.Outside.beside_is g.met.O.Outside.faults_is c.args.outside.now c.condense.new.disk c.condense.ensures.beside

pub returns-clause-later : goal.returns-clause-later
returns-clause-later g c = rw (g.met.O.Outside.faults_is c.args.outside.now, g.met.O.Outside.faults_is c.condense.new.disk) c.condense.ensures.later

pub returns-clause-cause : goal.returns-clause-cause
returns-clause-cause g c = rw (g.met.O.Outside.faults_is c.args.outside.now, g.met.O.Outside.faults_is c.condense.new.disk) c.condense.ensures.cause

pub returns-clause-faults_stay : goal.returns-clause-faults_stay
returns-clause-faults_stay g c = rw (g.met.O.Outside.faults_is c.args.outside.now, g.met.O.Outside.faults_is c.condense.new.disk) c.condense.ensures.faults_stay
