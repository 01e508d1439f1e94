use Rattle.s80_keeper.specs.Keeper.{KeeperState, Keeps}
use Rattle.s80_keeper.specs.Renewing.{HasWritten}
use Rattle.s80_keeper.proofs.Condensed.{condensed_unmade}
use Rattle.s80_keeper.proofs.Renewed.{if_disk_so, open_so, unless_disk_so}
use Rattle.s80_keeper.proofs.Written.{unwritten}
use Rattle.s80_keeper.proofs.keeper.Keeper.replace_by.Goals as goal

pub returns-in-Ok-clause-any_moment : goal.returns-in-Ok-clause-any_moment
returns-in-Ok-clause-any_moment g c = λ list keeps is_list built. (c.renewed.ensures.renewed list keeps is_list built).0

pub returns-in-Ok-clause-condensed : goal.returns-in-Ok-clause-condensed
returns-in-Ok-clause-condensed g c = λ list keeps is_list built. (c.in-Ok.ensures.renewed list keeps is_list built).1

pub returns-in-Ok-clause-written : goal.returns-in-Ok-clause-written
returns-in-Ok-clause-written g c = λ is_list built. c.in-Ok.ensures.written is_list built

-- ---- where there is no new one

pub returns-in-Err-clause-any_moment : goal.returns-in-Err-clause-any_moment
returns-in-Err-clause-any_moment g c = λ list keeps is_list built. (c.renewed.ensures.renewed list keeps is_list built).0

pub returns-in-Err-clause-condensed : goal.returns-in-Err-clause-condensed
returns-in-Err-clause-condensed g c = λ list keeps is_list built.
    let D = g.D.Disk in
    let new = c.renewed.new.disk in
    condensed_unmade c.in-Err.fault (D.tells new) (D.reads new) (D.may_leave new) c.args.self.now c.note.new.self list c.args.changes.now (λ next. Keeps (D.tells new) (D.reads new) (D.may_leave new) next c.args.changes.now c.args.changes.now) c.note.ensures (c.in-Err.ensures.renewed list keeps is_list built).1

pub returns-in-Err-clause-written : goal.returns-in-Err-clause-written
returns-in-Err-clause-written g c = λ is_list built.
    let D = g.D.Disk in
    let new = c.renewed.new.disk in
    unwritten KeeperState (Unit {0}) c.in-Err.fault (λ next. HasWritten (D.tells new) (D.reads new) next c.args.changes.now) (λ made. HasWritten (D.tells new) (D.reads new) c.note.new.self c.args.changes.now) (c.in-Err.ensures.written is_list built)

pub returns-in-Err-clause-open : goal.returns-in-Err-clause-open
returns-in-Err-clause-open g c = open_so KeeperState (Unit {0}) c.in-Err.fault c.in-Err.ensures.open

pub returns-in-Err-clause-cause : goal.returns-in-Err-clause-cause
returns-in-Err-clause-cause g c = if_disk_so KeeperState (Unit {0}) c.in-Err.fault _ c.in-Err.ensures.cause

pub returns-in-Err-clause-named : goal.returns-in-Err-clause-named
returns-in-Err-clause-named g c = if_disk_so KeeperState (Unit {0}) c.in-Err.fault _ c.in-Err.ensures.named

pub returns-in-Err-clause-faults_stay : goal.returns-in-Err-clause-faults_stay
returns-in-Err-clause-faults_stay g c = unless_disk_so KeeperState (Unit {0}) c.in-Err.fault _ c.in-Err.ensures.faults_stay
