use Rattle.std.proofs.Common.{⊎_elim, ◌∙◌}
use Rattle.s80_disk.proofs.lemmas.Showing.{told_beside}
use Rattle.s80_session.proofs.Breaking.{flush_calm}
use Rattle.s80_session.proofs.Joining.{flush_lasts, joining_flush, joining_still, rest_stays}
use Rattle.s80_session.proofs.session.Session.commit_full.Goals as goal

pub returns-then-is_full-clause-joined : goal.returns-then-is_full-clause-joined
returns-then-is_full-clause-joined g c = λ work put theirs added waiting j.
    joining_flush (g.O.Disk.may_leave c.args.outside.now) (g.O.Outside.shown c.args.outside.now) c.args.self.now work put theirs added waiting j c.flush.result (g.O.Disk.may_leave c.flush.new.outside) (g.O.Outside.shown c.flush.new.outside) c.flush.new.self c.flush.ensures.flushed

pub returns-then-is_full-clause-any_moment : goal.returns-then-is_full-clause-any_moment
returns-then-is_full-clause-any_moment g c = λ work put theirs added waiting j.
    let o = c.args.outside.now in
    let still = joining_still (g.O.Disk.may_leave o) (g.O.Outside.shown o) c.args.self.now work put theirs added waiting j g.O.Disk.moment g.O.Disk.left_since o (λ told image left. let x = g.met.O.Disk.only_now o told image left in (x.0, x.1 ∙ told_beside g.met.O.Outside.beside_is g.met.O.Outside.shown_is o)) in
    flush_lasts (g.O.Disk.may_leave o) (g.O.Outside.shown o) c.args.self.now work put theirs added waiting j g.O.Disk.moment g.O.Disk.left_since o o c.flush.new.outside still c.flush.ensures.any_moment

pub returns-then-is_full-clause-held : goal.returns-then-is_full-clause-held
returns-then-is_full-clause-held g c = ⊎_elim (λ same. same ∙ c.requires.unheld) (λ none. none) c.flush.ensures.held

pub returns-then-is_full-clause-faultless : goal.returns-then-is_full-clause-faultless
returns-then-is_full-clause-faultless g c = flush_calm c.flush.result c.flush.new.self c.flush.ensures.resting c.flush.ensures.ends

-- less is pending

pub returns-clause-joined : goal.returns-clause-joined
returns-clause-joined g c = λ work put theirs added waiting j. j

pub returns-clause-any_moment : goal.returns-clause-any_moment
returns-clause-any_moment g c = λ work put theirs added waiting j.
    let o = c.args.outside.now in
    joining_still (g.O.Disk.may_leave o) (g.O.Outside.shown o) c.args.self.now work put theirs added waiting j g.O.Disk.moment g.O.Disk.left_since o (λ told image left. let x = g.met.O.Disk.only_now o told image left in (x.0, x.1 ∙ told_beside g.met.O.Outside.beside_is g.met.O.Outside.shown_is o))

pub returns-clause-rest : goal.returns-clause-rest
returns-clause-rest g c = rest_stays c.args.self.now
