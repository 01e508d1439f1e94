use Rattle.std.proofs.Common.{⊎_elim, ◌∙◌}
use Rattle.s80_disk.proofs.lemmas.Showing.{told_beside}
use Rattle.s80_session.proofs.Answering.{run_of_rest}
use Rattle.s80_session.proofs.Breaking.{flush_calm}
use Rattle.s80_session.proofs.Holding.{source_counts}
use Rattle.s80_session.proofs.Making.{flush_lasts, making_flush, making_still}
use Rattle.s80_session.proofs.Marking.{no_run}
use Rattle.s80_session.proofs.OneGroup.{flush_little, little_below}
use Rattle.s80_session.proofs.session.Session.flush_full.Goals as goal

pub returns-then-is_full-clause-made : goal.returns-then-is_full-clause-made
returns-then-is_full-clause-made g c = λ was work put count done tally m.
    making_flush (g.O.Disk.may_leave c.args.outside.now) (g.O.Outside.shown c.args.outside.now) c.args.self.now was work put count done tally m c.flush.result (g.O.Disk.may_leave c.flush.new.outside) (g.O.Outside.shown c.flush.new.outside) c.flush.new.self c.flush.ensures.rest c.flush.ensures.flushed

pub returns-then-is_full-clause-any_moment : goal.returns-then-is_full-clause-any_moment
returns-then-is_full-clause-any_moment g c = λ was work put count done tally m.
    let o = c.args.outside.now in
    let still = making_still g.O.Disk.moment g.O.Disk.left_since (g.O.Disk.may_leave o) (g.O.Outside.shown o) c.args.self.now o was work put count done tally (λ told image left. let x = g.met.O.Disk.only_now o told image left in (x.0, x.1 ∙ told_beside g.met.O.Outside.beside_is g.met.O.Outside.shown_is o)) m in
    flush_lasts (g.O.Disk.may_leave o) (g.O.Outside.shown o) c.args.self.now was work put count done tally m g.O.Disk.moment g.O.Disk.left_since o o c.flush.new.outside still c.flush.ensures.any_moment

pub returns-then-is_full-clause-held : goal.returns-then-is_full-clause-held
returns-then-is_full-clause-held g c = ⊎_elim (λ same. same ∙ c.requires.unheld) (λ none. none) c.flush.ensures.held

pub returns-then-is_full-clause-last_run : goal.returns-then-is_full-clause-last_run
returns-then-is_full-clause-last_run g c = run_of_rest c.args.self.now c.flush.new.self c.flush.ensures.rest

pub returns-then-is_full-clause-counts : goal.returns-then-is_full-clause-counts
returns-then-is_full-clause-counts g c = source_counts {U = Unit {0}} (g.O.Outside.faults c.args.outside.now) (g.O.Outside.faults c.flush.new.outside) c.flush.result c.flush.ensures.counts

pub returns-then-is_full-clause-faultless : goal.returns-then-is_full-clause-faultless
returns-then-is_full-clause-faultless g c = flush_calm c.flush.result c.flush.new.self c.flush.ensures.resting c.flush.ensures.ends

pub returns-then-is_full-clause-little : goal.returns-then-is_full-clause-little
returns-then-is_full-clause-little g c = flush_little c.flush.result c.flush.new.self c.flush.ensures.resting

-- less is pending

pub returns-clause-made : goal.returns-clause-made
returns-clause-made g c = λ was work put count done tally m. m

pub returns-clause-any_moment : goal.returns-clause-any_moment
returns-clause-any_moment g c = λ was work put count done tally m.
    let o = c.args.outside.now in
    making_still g.O.Disk.moment g.O.Disk.left_since (g.O.Disk.may_leave o) (g.O.Outside.shown o) c.args.self.now o was work put count done tally (λ told image left. let x = g.met.O.Disk.only_now o told image left in (x.0, x.1 ∙ told_beside g.met.O.Outside.beside_is g.met.O.Outside.shown_is o)) m

pub returns-clause-last_run : goal.returns-clause-last_run
returns-clause-last_run g c = no_run c.args.self.now

pub returns-clause-little : goal.returns-clause-little
returns-clause-little g c = little_below c.is_full.result c.args.self.now c.is_full.ensures c.if-is_full.false
