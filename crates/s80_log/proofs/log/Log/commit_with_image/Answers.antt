use Rattle.s80_log.proofs.Staying.{carried}
use Rattle.s80_log.proofs.Committing.{takes_imaged}
use Rattle.s80_log.proofs.log.Log.commit_with_image.Goals as goal

pub returns-clause-committed : goal.returns-clause-committed
returns-clause-committed g c = λ kept all holds counts.
    let D = g.D.Disk in
    let d = c.args.disk.now in
    (rw (c.length-position.ensures, c.mark_after.ensures) at c.commit_by.ensures.committed) kept all (carried holds) (takes_imaged (D.tells d) (D.reads d) (D.may_leave d) c.args.self.now c.args.mark.now kept all c.args.count c.args.image c.args.image_length c.requires holds counts)

pub returns-clause-stands : goal.returns-clause-stands
returns-clause-stands g c = λ kept all holds counts.
    let D = g.D.Disk in
    let d = c.args.disk.now in
    (rw (c.length-position.ensures, c.mark_after.ensures) at c.commit_by.ensures.stands) kept all (carried holds) (takes_imaged (D.tells d) (D.reads d) (D.may_leave d) c.args.self.now c.args.mark.now kept all c.args.count c.args.image c.args.image_length c.requires holds counts)

pub returns-clause-left : goal.returns-clause-left
returns-clause-left g c = λ kept all e holds counts here.
    let D = g.D.Disk in
    let d = c.args.disk.now in
    (rw (c.length-position.ensures, c.mark_after.ensures) at c.commit_by.ensures.left) kept all e (carried holds) (takes_imaged (D.tells d) (D.reads d) (D.may_leave d) c.args.self.now c.args.mark.now kept all c.args.count c.args.image c.args.image_length c.requires holds counts) here

pub returns-clause-reads : goal.returns-clause-reads
returns-clause-reads g c = λ kept all holds counts.
    let D = g.D.Disk in
    let d = c.args.disk.now in
    (rw (c.length-position.ensures, c.mark_after.ensures) at c.commit_by.ensures.reads) kept all (carried holds) (takes_imaged (D.tells d) (D.reads d) (D.may_leave d) c.args.self.now c.args.mark.now kept all c.args.count c.args.image c.args.image_length c.requires holds counts)

pub returns-clause-crash : goal.returns-clause-crash
returns-clause-crash g c = rw (c.length-position.ensures, c.mark_after.ensures) at c.commit_by.ensures.crash
