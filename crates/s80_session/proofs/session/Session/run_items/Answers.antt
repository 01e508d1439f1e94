use Rattle.std.proofs.Common.{inl, ◌∙◌}
use Rattle.std.proofs.lemmas.Result.{err_from_is_err_and}
use Rattle.s80_disk.proofs.lemmas.Showing.{told_beside}
use Rattle.s80_model.specs.Replies.{work_after_all}
use Rattle.s80_session.specs.Run.{FirstAsksOf}
use Rattle.s80_session.specs.Session.{was_of}
use Rattle.s80_session.proofs.Answering.{run_of_rest}
use Rattle.s80_session.proofs.Finishing.{finished_ends}
use Rattle.s80_session.proofs.Fronts.{first_front, first_of_all}
use Rattle.s80_session.proofs.Breaking.{err_sources_on}
use Rattle.s80_session.proofs.Holding.{counts_on}
use Rattle.s80_session.proofs.Marking.{both_runs, no_run}
use Rattle.s80_session.proofs.OneGroup.{little_at_rest}
use Rattle.s80_session.proofs.Taking.{broke_at_start, starts_done}
use Rattle.s80_session.proofs.lemmas.Groups.{group_flushed, keeps_on, run_starts}
use Rattle.s80_session.proofs.session.Session.run_items.Goals as goal

pub returns-in_err-buf-clause-ran : goal.returns-in_err-buf-clause-ran
returns-in_err-buf-clause-ran g c = λ work input before left_is at.
    let p = err_from_is_err_and c.from_residual.result c.from_residual.ensures.1 in
    rw (p.1, p.2) (inl (broke_at_start (g.O.Disk.may_leave c.args.outside.now) _ _ work input before at))

pub returns-in_err-buf-clause-any_moment : goal.returns-in_err-buf-clause-any_moment
returns-in_err-buf-clause-any_moment g c = λ work input before left_is at.
    run_starts g.O.Disk.moment g.O.Disk.left_since (g.O.Disk.may_leave c.args.outside.now) (g.O.Outside.shown c.args.outside.now) c.args.self.now c.args.outside.now work input before (λ told image left. let x = g.met.O.Disk.only_now c.args.outside.now told image left in (x.0, x.1 ∙ told_beside g.met.O.Outside.beside_is g.met.O.Outside.shown_is c.args.outside.now)) at

pub returns-in_err-buf-clause-last_run : goal.returns-in_err-buf-clause-last_run
returns-in_err-buf-clause-last_run g c = no_run c.args.self.now

pub returns-in_err-reader-clause-ran : goal.returns-in_err-reader-clause-ran
returns-in_err-reader-clause-ran g c = λ work input before left_is at.
    let p = err_from_is_err_and c.from_residual-in_err-reader.result c.from_residual-in_err-reader.ensures.1 in
    rw (p.1, p.2) (inl (broke_at_start (g.O.Disk.may_leave c.args.outside.now) _ _ work input before at))

pub returns-in_err-reader-clause-any_moment : goal.returns-in_err-reader-clause-any_moment
returns-in_err-reader-clause-any_moment g c = λ work input before left_is at.
    run_starts g.O.Disk.moment g.O.Disk.left_since (g.O.Disk.may_leave c.args.outside.now) (g.O.Outside.shown c.args.outside.now) c.args.self.now c.args.outside.now work input before (λ told image left. let x = g.met.O.Disk.only_now c.args.outside.now told image left in (x.0, x.1 ∙ told_beside g.met.O.Outside.beside_is g.met.O.Outside.shown_is c.args.outside.now)) at

pub returns-in_err-reader-clause-last_run : goal.returns-in_err-reader-clause-last_run
returns-in_err-reader-clause-last_run g c = no_run c.args.self.now

pub returns-in_err-take_all-clause-ran : goal.returns-in_err-take_all-clause-ran
returns-in_err-take_all-clause-ran g c = λ work input before left_is at.
    let start = starts_done (g.O.Disk.may_leave c.args.outside.now) _ _ _ work before c.in_ok-reader.ensures.read at in
    let p = err_from_is_err_and c.from_residual-in_err-take_all.result c.from_residual-in_err-take_all.ensures.1 in
    rw (p.1, p.2) (c.in_err-take_all.ensures.took (was_of c.args.self.now) work input before left_is start)

pub returns-in_err-take_all-clause-any_moment : goal.returns-in_err-take_all-clause-any_moment
returns-in_err-take_all-clause-any_moment g c = λ work input before left_is at.
    let start = starts_done (g.O.Disk.may_leave c.args.outside.now) _ _ _ work before c.in_ok-reader.ensures.read at in
    c.take_all.ensures.any_moment (was_of c.args.self.now) work input before left_is start

pub returns-in_err-take_all-clause-last_run : goal.returns-in_err-take_all-clause-last_run
returns-in_err-take_all-clause-last_run g c = c.take_all.ensures.last_run

pub finish-requires-clause-little : goal.finish-requires-clause-little
finish-requires-clause-little g c = little_at_rest c.take_all.new.self c.in_ok-take_all.ensures.resting

pub returns-in_err-finish-clause-ran : goal.returns-in_err-finish-clause-ran
returns-in_err-finish-clause-ran g c = λ work input before left_is at.
    let start = starts_done (g.O.Disk.may_leave c.args.outside.now) _ _ _ work before c.in_ok-reader.ensures.read at in
    let t = c.in_ok-take_all.ensures.took (was_of c.args.self.now) work input before left_is start in
    let p = err_from_is_err_and c.from_residual-in_err-finish.result c.from_residual-in_err-finish.ensures.1 in
    rw (p.1, p.2) (c.in_err-finish.ensures.finished (was_of c.args.self.now) work input before t)

pub returns-in_err-finish-clause-any_moment : goal.returns-in_err-finish-clause-any_moment
returns-in_err-finish-clause-any_moment g c = λ work input before left_is at.
    let start = starts_done (g.O.Disk.may_leave c.args.outside.now) _ _ _ work before c.in_ok-reader.ensures.read at in
    let t = c.in_ok-take_all.ensures.took (was_of c.args.self.now) work input before left_is start in
    keeps_on g.O.Disk.moment g.O.Disk.left_since c.args.outside.now c.take_all.new.outside c.finish.new.outside work input before (c.take_all.ensures.any_moment (was_of c.args.self.now) work input before left_is start) (c.finish.ensures.any_moment (was_of c.args.self.now) work input before t)

pub returns-in_err-finish-clause-last_run : goal.returns-in_err-finish-clause-last_run
returns-in_err-finish-clause-last_run g c = both_runs c.args.self.now c.take_all.new.self c.finish.new.self c.take_all.ensures.last_run c.finish.ensures.last_run

pub returns-clause-ran : goal.returns-clause-ran
returns-clause-ran g c = λ work input before left_is at.
    let start = starts_done (g.O.Disk.may_leave c.args.outside.now) _ _ _ work before c.in_ok-reader.ensures.read at in
    let t = c.in_ok-take_all.ensures.took (was_of c.args.self.now) work input before left_is start in
    let f = c.in_ok-finish.ensures.finished (was_of c.args.self.now) work input before t in
    finished_ends c.flush.result (g.O.Disk.may_leave c.finish.new.outside) (g.O.Disk.may_leave c.flush.new.outside) (g.O.Outside.shown c.finish.new.outside) (g.O.Outside.shown c.flush.new.outside) c.finish.new.self c.flush.new.self (was_of c.args.self.now) work input before f (c.flush.ensures.flushed (work_after_all work f.asks) f.basis f.at) c.flush.ensures.rest c.flush.ensures.left

pub returns-clause-any_moment : goal.returns-clause-any_moment
returns-clause-any_moment g c = λ work input before left_is at.
    let start = starts_done (g.O.Disk.may_leave c.args.outside.now) _ _ _ work before c.in_ok-reader.ensures.read at in
    let t = c.in_ok-take_all.ensures.took (was_of c.args.self.now) work input before left_is start in
    let f = c.in_ok-finish.ensures.finished (was_of c.args.self.now) work input before t in
    group_flushed g.O.Disk.moment g.O.Disk.left_since (FirstAsksOf work input) (first_front work input) work before f.asks f.basis (first_of_all work input f.asks f.all) f.behind c.args.outside.now c.finish.new.outside c.flush.new.outside (keeps_on g.O.Disk.moment g.O.Disk.left_since c.args.outside.now c.take_all.new.outside c.finish.new.outside work input before (c.take_all.ensures.any_moment (was_of c.args.self.now) work input before left_is start) (c.finish.ensures.any_moment (was_of c.args.self.now) work input before t)) (c.flush.ensures.any_moment (work_after_all work f.asks) f.basis f.at)

pub returns-clause-last_run : goal.returns-clause-last_run
returns-clause-last_run g c = both_runs c.args.self.now c.finish.new.self c.flush.new.self (both_runs c.args.self.now c.take_all.new.self c.finish.new.self c.take_all.ensures.last_run c.finish.ensures.last_run) (run_of_rest c.finish.new.self c.flush.new.self c.flush.ensures.rest)

-- ---- what is known stays known

pub returns-in_err-take_all-clause-known : goal.returns-in_err-take_all-clause-known
returns-in_err-take_all-clause-known g c = λ knows.
    let p = err_from_is_err_and c.from_residual-in_err-take_all.result c.from_residual-in_err-take_all.ensures.1 in
    rw (p.1, p.2) (c.in_err-take_all.ensures.known knows)

pub returns-in_err-finish-clause-known : goal.returns-in_err-finish-clause-known
returns-in_err-finish-clause-known g c = λ knows.
    let p = err_from_is_err_and c.from_residual-in_err-finish.result c.from_residual-in_err-finish.ensures.1 in
    rw (p.1, p.2) (c.in_err-finish.ensures.known (c.in_ok-take_all.ensures.known knows))

pub returns-clause-known : goal.returns-clause-known
returns-clause-known g c = λ knows. c.flush.ensures.known (c.in_ok-finish.ensures.known (c.in_ok-take_all.ensures.known knows))

-- ---- the counts of faults

pub returns-in_err-finish-clause-counts : goal.returns-in_err-finish-clause-counts
returns-in_err-finish-clause-counts g c =
    let a = g.O.Outside.faults c.args.outside.now in
    let m = g.O.Outside.faults c.take_all.new.outside in
    let b = g.O.Outside.faults c.finish.new.outside in
    let p = err_from_is_err_and c.from_residual-in_err-finish.result c.from_residual-in_err-finish.ensures.1 in
    rw (p.1, p.2) (err_sources_on (Unit {0}) (Unit {0}) a m b c.in_err-finish.field-0.0 c.in_ok-take_all.ensures.counts.reason c.in_err-finish.ensures.counts)

pub returns-clause-counts : goal.returns-clause-counts
returns-clause-counts g c = (counts_on _ _ _ c.flush.result c.flush.ensures.counts (c.in_ok-finish.ensures.counts.reason ∙ c.in_ok-take_all.ensures.counts.reason)).1
