use Rattle.std.proofs.Common.{◌∙◌}
use Rattle.s80_disk.proofs.lemmas.Showing.{told_beside}
use Rattle.s80_session.proofs.lemmas.Groups.{flush_starts}
use Rattle.s80_session.proofs.session.Session.next_item.Goals as goal

pub returns-in-Ok-clause-any_moment : goal.returns-in-Ok-clause-any_moment
returns-in-Ok-clause-any_moment g c = λ work basis at.
    let o = c.args.outside.now in
    flush_starts g.O.Disk.moment g.O.Disk.left_since (g.O.Disk.may_leave o) (g.O.Outside.shown o) c.args.self.now o work basis (λ told image left. let x = g.met.O.Disk.only_now o told image left in (x.0, x.1 ∙ told_beside g.met.O.Outside.beside_is g.met.O.Outside.shown_is o)) at
