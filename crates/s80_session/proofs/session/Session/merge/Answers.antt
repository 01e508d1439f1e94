use Rattle.std.proofs.Common.{ap, refl, ◌∙◌}
use Rattle.std.proofs.lemmas.Result.{err_from_is_err_and}
use Rattle.s80_joining.specs.declared.outcome.Outcome.{Outcome}
use Rattle.s80_session.specs.Session.{last_run_of, troubled_of, was_of}
use Rattle.s80_session.proofs.Breaking.{err_sources_on}
use Rattle.s80_session.proofs.Holding.{source_counts, sources_on}
use Rattle.s80_session.proofs.Joining.{merged_lasts, merged_so, unmerged, unmerged_lasts}
use Rattle.s80_session.proofs.Knowing.{ends_so}
use Rattle.s80_session.proofs.session.Session.merge.Goals as goal

-- it comes to nothing

pub returns-in_err-outcome-clause-merged : goal.returns-in_err-outcome-clause-merged
returns-in_err-outcome-clause-merged g c = λ work input put left at.
    let p = err_from_is_err_and c.from_residual.result c.from_residual.ensures.1 in
    rw (p.1, p.2) (unmerged (Unit {0}) c.in_err-outcome.field-0.0 (g.O.Disk.may_leave c.outcome.new.outside) (g.O.Outside.shown c.outcome.new.outside) c.outcome.new.self (was_of c.args.self.now) (was_of c.outcome.new.self) work input put (c.in_err-outcome.ensures.comes work input put left at))

pub returns-in_err-outcome-clause-any_moment : goal.returns-in_err-outcome-clause-any_moment
returns-in_err-outcome-clause-any_moment g c = λ work input put left at.
    unmerged_lasts g.O.Disk.moment g.O.Disk.left_since c.args.outside.now c.outcome.new.outside work input put (c.outcome.ensures.any_moment work put at)

pub returns-in_err-outcome-clause-last_run : goal.returns-in_err-outcome-clause-last_run
returns-in_err-outcome-clause-last_run g c = ap last_run_of c.outcome.ensures.rest

pub returns-in_err-outcome-clause-known : goal.returns-in_err-outcome-clause-known
returns-in_err-outcome-clause-known g c = λ knows.
    let p = err_from_is_err_and c.from_residual.result c.from_residual.ensures.1 in
    rw (p.1, p.2) (ends_so Outcome (Unit {0}) c.in_err-outcome.field-0.0 (g.O.Outside.shown c.outcome.new.outside) c.outcome.new.self (c.in_err-outcome.ensures.known knows))

pub returns-in_err-outcome-clause-counts : goal.returns-in_err-outcome-clause-counts
returns-in_err-outcome-clause-counts g c =
    let a = g.O.Outside.faults c.args.outside.now in
    let b = g.O.Outside.faults c.outcome.new.outside in
    let p = err_from_is_err_and c.from_residual.result c.from_residual.ensures.1 in
    rw (p.1, p.2) (err_sources_on Outcome (Unit {0}) a a b c.in_err-outcome.field-0.0 refl c.in_err-outcome.ensures.counts)

-- it is done

pub returns-clause-merged : goal.returns-clause-merged
returns-clause-merged g c = λ work input put left at.
    let h = c.in_ok-outcome.ensures.comes work input put left at in
    merged_so (g.O.Disk.may_leave c.outcome.new.outside) (g.O.Outside.shown c.outcome.new.outside) c.outcome.new.self work input put c.in_ok-outcome.outcome h c.join.result (g.O.Disk.may_leave c.join.new.outside) (g.O.Outside.shown c.join.new.outside) (was_of c.args.self.now) (was_of c.outcome.new.self) (was_of c.join.new.self) (ap troubled_of c.outcome.ensures.rest) c.join.ensures.left (c.join.ensures.joined work put h.at)

pub returns-clause-any_moment : goal.returns-clause-any_moment
returns-clause-any_moment g c = λ work input put left at.
    let h = c.in_ok-outcome.ensures.comes work input put left at in
    merged_lasts (g.O.Disk.may_leave c.outcome.new.outside) (g.O.Outside.shown c.outcome.new.outside) c.outcome.new.self work input put c.in_ok-outcome.outcome h g.O.Disk.moment g.O.Disk.left_since c.args.outside.now c.outcome.new.outside c.join.new.outside (c.outcome.ensures.any_moment work put at) (c.join.ensures.any_moment work put h.at)

pub returns-clause-last_run : goal.returns-clause-last_run
returns-clause-last_run g c = c.join.ensures.last_run ∙ ap last_run_of c.outcome.ensures.rest

pub returns-clause-known : goal.returns-clause-known
returns-clause-known g c = λ knows. c.join.ensures.known (c.in_ok-outcome.ensures.known knows)

pub returns-clause-counts : goal.returns-clause-counts
returns-clause-counts g c =
    let a = g.O.Outside.faults c.args.outside.now in
    let m = g.O.Outside.faults c.outcome.new.outside in
    let b = g.O.Outside.faults c.join.new.outside in
    sources_on a m b c.join.result (source_counts {U = Unit {0}} m b c.join.result c.join.ensures.counts) c.in_ok-outcome.ensures.counts.reason
