use Rattle.s80_session.proofs.Flushing.{memory_ends}
use Rattle.s80_session.proofs.session.Session.end_for_memory.Goals as goal

pub returns-in-Ok-clause-unheld : goal.returns-in-Ok-clause-unheld
returns-in-Ok-clause-unheld g c = c.flush.ensures.unheld

pub returns-in-Err-clause-ends : goal.returns-in-Err-clause-ends
returns-in-Err-clause-ends g c = λ work basis at.
    memory_ends c.in-Err.end (g.O.Disk.may_leave c.flush.new.outside) (g.O.Outside.shown c.flush.new.outside) c.flush.new.self work basis (c.in-Err.ensures.flushed work basis at)
