use Rattle.s80_log.proofs.Staying.{carried_beside}
use Rattle.s80_log.proofs.Committing.{takes_fresh}
use Rattle.s80_log.proofs.log.Log.commit_alone.Goals as goal

pub returns-clause-committed : goal.returns-clause-committed
returns-clause-committed g c = λ kept all holds counts.
    let D = g.D.Disk in
    let d = c.args.disk.now in
    (rw c.mark_after.ensures at c.commit_by.ensures.committed) kept all (carried_beside holds) (takes_fresh (D.tells d) (D.reads d) (D.may_leave d) c.args.self.now c.args.mark.now kept all c.args.count holds counts)

pub returns-clause-stands : goal.returns-clause-stands
returns-clause-stands g c = λ kept all holds counts.
    let D = g.D.Disk in
    let d = c.args.disk.now in
    (rw c.mark_after.ensures at c.commit_by.ensures.stands) kept all (carried_beside holds) (takes_fresh (D.tells d) (D.reads d) (D.may_leave d) c.args.self.now c.args.mark.now kept all c.args.count holds counts)

pub returns-clause-left : goal.returns-clause-left
returns-clause-left g c = λ kept all e holds counts here.
    let D = g.D.Disk in
    let d = c.args.disk.now in
    (rw c.mark_after.ensures at c.commit_by.ensures.left) kept all e (carried_beside holds) (takes_fresh (D.tells d) (D.reads d) (D.may_leave d) c.args.self.now c.args.mark.now kept all c.args.count holds counts) here

pub returns-clause-reads : goal.returns-clause-reads
returns-clause-reads g c = λ kept all holds counts.
    let D = g.D.Disk in
    let d = c.args.disk.now in
    (rw c.mark_after.ensures at c.commit_by.ensures.reads) kept all (carried_beside holds) (takes_fresh (D.tells d) (D.reads d) (D.may_leave d) c.args.self.now c.args.mark.now kept all c.args.count holds counts)

pub returns-clause-crash : goal.returns-clause-crash
returns-clause-crash g c = rw c.mark_after.ensures at c.commit_by.ensures.crash
