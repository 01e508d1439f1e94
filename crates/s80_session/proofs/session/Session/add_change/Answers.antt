use Rattle.std.proofs.Common.{Option, ap, ◌∙◌}
use Rattle.std.proofs.lemmas.Result.{err_from_is_err_and}
use Rattle.s80_form.specs.declared.refusal.Refusal.{Refusal}
use Rattle.s80_joining.specs.declared.outcome.Outcome.TheVariants as outcomes
use Rattle.s80_session.specs.Known.{IsLawfulAnywhere}
use Rattle.s80_session.specs.Session.{held_of}
use Rattle.s80_session.proofs.Breaking.{done_counts, err_counts_on, memory_only}
use Rattle.s80_session.proofs.Joining.{after_one, change_kept, change_lasts, change_unkept, flushed_one, joining_on, rest_kept, rest_on}
use Rattle.s80_session.proofs.Knowing.{ends_so}
use Rattle.s80_session.proofs.session.Session.add_change.Goals as goal
use Rattle.s80_session.proofs.session.Session.add_change.Goals.{After-keep}

lawful_anywhere : (g : _) (c : After-keep g) → IsLawfulAnywhere c.args.change
lawful_anywhere g c = λ changes all accepted. c.requires.lawful

-- it isn't kept

pub returns-in_err-refusal-clause-added : goal.returns-in_err-refusal-clause-added
returns-in_err-refusal-clause-added g c = λ work put theirs added waiting j.
    let p = err_from_is_err_and c.from_residual.result c.from_residual.ensures.1 in
    rw (p.1, p.2) (change_unkept (g.O.Disk.may_leave c.args.outside.now) (g.O.Outside.shown c.args.outside.now) c.args.self.now work put theirs added waiting c.args.change j c.requires.lawful c.in_err-refusal.field-0.0 (g.O.Disk.may_leave c.keep.new.outside) (g.O.Outside.shown c.keep.new.outside) c.keep.new.self c.in_err-refusal.ensures.kept)

pub returns-in_err-refusal-clause-any_moment : goal.returns-in_err-refusal-clause-any_moment
returns-in_err-refusal-clause-any_moment g c = λ work put theirs added waiting j.
    change_lasts (g.O.Disk.may_leave c.args.outside.now) (g.O.Outside.shown c.args.outside.now) c.args.self.now work put theirs added waiting c.args.change j c.requires.lawful g.O.Disk.moment g.O.Disk.left_since c.args.outside.now c.keep.new.outside c.keep.ensures.any_moment

pub returns-in_err-refusal-clause-held : goal.returns-in_err-refusal-clause-held
returns-in_err-refusal-clause-held g c = ap held_of c.keep.ensures.rest ∙ c.requires.unheld

pub returns-in_err-refusal-clause-rest : goal.returns-in_err-refusal-clause-rest
returns-in_err-refusal-clause-rest g c = rest_kept c.args.self.now c.keep.new.self c.keep.ensures.rest

pub returns-in_err-refusal-clause-known : goal.returns-in_err-refusal-clause-known
returns-in_err-refusal-clause-known g c = λ knows.
    let after = (goal.at.returns-in_err-refusal-clause-known g c).After-keep in
    let p = err_from_is_err_and c.from_residual.result c.from_residual.ensures.1 in
    rw (p.1, p.2) (c.in_err-refusal.ensures.known (λ told. lawful_anywhere g after) knows)

pub returns-in_err-refusal-clause-counts : goal.returns-in_err-refusal-clause-counts
returns-in_err-refusal-clause-counts g c =
    let p = err_from_is_err_and c.from_residual.result c.from_residual.ensures.1 in
    rw (p.1, p.2) c.in_err-refusal.ensures.counts

pub returns-in_err-refusal-clause-faultless : goal.returns-in_err-refusal-clause-faultless
returns-in_err-refusal-clause-faultless g c =
    let p = err_from_is_err_and c.from_residual.result c.from_residual.ensures.1 in
    rw (p.1, p.2) c.in_err-refusal.ensures.faultless

-- it isn't committed

pub returns-in_err-commit_full-clause-added : goal.returns-in_err-commit_full-clause-added
returns-in_err-commit_full-clause-added g c = λ work put theirs added waiting j.
    let one = change_kept (g.O.Disk.may_leave c.args.outside.now) (g.O.Outside.shown c.args.outside.now) c.args.self.now work put theirs added waiting c.args.change j c.requires.lawful c.in_ok-refusal.refusal (g.O.Disk.may_leave c.keep.new.outside) (g.O.Outside.shown c.keep.new.outside) c.keep.new.self c.in_ok-refusal.ensures.kept in
    let x = after_one c.in_ok-refusal.refusal (g.O.Disk.may_leave c.keep.new.outside) (g.O.Outside.shown c.keep.new.outside) c.keep.new.self work put theirs added c.args.change waiting one in
    let p = err_from_is_err_and c.from_residual-in_err-commit_full.result c.from_residual-in_err-commit_full.ensures.1 in
    rw (p.1, p.2) (c.in_err-commit_full.ensures.joined work put theirs x.0 x.1 x.2)

pub returns-in_err-commit_full-clause-any_moment : goal.returns-in_err-commit_full-clause-any_moment
returns-in_err-commit_full-clause-any_moment g c = λ work put theirs added waiting j.
    let one = change_kept (g.O.Disk.may_leave c.args.outside.now) (g.O.Outside.shown c.args.outside.now) c.args.self.now work put theirs added waiting c.args.change j c.requires.lawful c.in_ok-refusal.refusal (g.O.Disk.may_leave c.keep.new.outside) (g.O.Outside.shown c.keep.new.outside) c.keep.new.self c.in_ok-refusal.ensures.kept in
    let x = after_one c.in_ok-refusal.refusal (g.O.Disk.may_leave c.keep.new.outside) (g.O.Outside.shown c.keep.new.outside) c.keep.new.self work put theirs added c.args.change waiting one in
    let first = change_lasts (g.O.Disk.may_leave c.args.outside.now) (g.O.Outside.shown c.args.outside.now) c.args.self.now work put theirs added waiting c.args.change j c.requires.lawful g.O.Disk.moment g.O.Disk.left_since c.args.outside.now c.keep.new.outside c.keep.ensures.any_moment in
    joining_on g.O.Disk.moment g.O.Disk.left_since c.args.outside.now c.keep.new.outside c.commit_full.new.outside work put (outcomes.Joins theirs) first (c.commit_full.ensures.any_moment work put theirs x.0 x.1 x.2)

pub returns-in_err-commit_full-clause-rest : goal.returns-in_err-commit_full-clause-rest
returns-in_err-commit_full-clause-rest g c = rest_on c.args.self.now c.keep.new.self c.commit_full.new.self (rest_kept c.args.self.now c.keep.new.self c.keep.ensures.rest) c.commit_full.ensures.rest

pub returns-in_err-commit_full-clause-known : goal.returns-in_err-commit_full-clause-known
returns-in_err-commit_full-clause-known g c = λ knows.
    let after = (goal.at.returns-in_err-commit_full-clause-known g c).After-keep in
    let p = err_from_is_err_and c.from_residual-in_err-commit_full.result c.from_residual-in_err-commit_full.ensures.1 in
    rw (p.1, p.2) (ends_so (Unit {0}) (Option Refusal) c.in_err-commit_full.field-0.0 (g.O.Outside.shown c.commit_full.new.outside) c.commit_full.new.self (c.in_err-commit_full.ensures.known (c.in_ok-refusal.ensures.known (λ told. lawful_anywhere g after) knows)))

pub returns-in_err-commit_full-clause-counts : goal.returns-in_err-commit_full-clause-counts
returns-in_err-commit_full-clause-counts g c =
    let p = err_from_is_err_and c.from_residual-in_err-commit_full.result c.from_residual-in_err-commit_full.ensures.1 in
    rw (p.1, p.2) (err_counts_on (Unit {0}) (Option Refusal) (g.O.Outside.faults c.args.outside.now) (g.O.Outside.faults c.keep.new.outside) (g.O.Outside.faults c.commit_full.new.outside) c.in_err-commit_full.field-0.0 c.in_ok-refusal.ensures.counts.reason c.in_err-commit_full.ensures.counts)

pub returns-in_err-commit_full-clause-faultless : goal.returns-in_err-commit_full-clause-faultless
returns-in_err-commit_full-clause-faultless g c =
    let p = err_from_is_err_and c.from_residual-in_err-commit_full.result c.from_residual-in_err-commit_full.ensures.1 in
    rw (p.1, p.2) (memory_only (Option Refusal) (Unit {0}) _ c.in_err-commit_full.field-0.0 c.in_err-commit_full.ensures.faultless)

-- it is kept, or refused

pub returns-clause-added : goal.returns-clause-added
returns-clause-added g c = λ work put theirs added waiting j.
    let one = change_kept (g.O.Disk.may_leave c.args.outside.now) (g.O.Outside.shown c.args.outside.now) c.args.self.now work put theirs added waiting c.args.change j c.requires.lawful c.in_ok-refusal.refusal (g.O.Disk.may_leave c.keep.new.outside) (g.O.Outside.shown c.keep.new.outside) c.keep.new.self c.in_ok-refusal.ensures.kept in
    flushed_one c.in_ok-refusal.refusal (g.O.Disk.may_leave c.keep.new.outside) (g.O.Disk.may_leave c.commit_full.new.outside) (g.O.Outside.shown c.keep.new.outside) (g.O.Outside.shown c.commit_full.new.outside) c.keep.new.self c.commit_full.new.self work put theirs added c.args.change waiting (λ so_far left k. c.in_ok-commit_full.ensures.joined work put theirs so_far left k) one

pub returns-clause-any_moment : goal.returns-clause-any_moment
returns-clause-any_moment g c = λ work put theirs added waiting j.
    let one = change_kept (g.O.Disk.may_leave c.args.outside.now) (g.O.Outside.shown c.args.outside.now) c.args.self.now work put theirs added waiting c.args.change j c.requires.lawful c.in_ok-refusal.refusal (g.O.Disk.may_leave c.keep.new.outside) (g.O.Outside.shown c.keep.new.outside) c.keep.new.self c.in_ok-refusal.ensures.kept in
    let x = after_one c.in_ok-refusal.refusal (g.O.Disk.may_leave c.keep.new.outside) (g.O.Outside.shown c.keep.new.outside) c.keep.new.self work put theirs added c.args.change waiting one in
    let first = change_lasts (g.O.Disk.may_leave c.args.outside.now) (g.O.Outside.shown c.args.outside.now) c.args.self.now work put theirs added waiting c.args.change j c.requires.lawful g.O.Disk.moment g.O.Disk.left_since c.args.outside.now c.keep.new.outside c.keep.ensures.any_moment in
    joining_on g.O.Disk.moment g.O.Disk.left_since c.args.outside.now c.keep.new.outside c.commit_full.new.outside work put (outcomes.Joins theirs) first (c.commit_full.ensures.any_moment work put theirs x.0 x.1 x.2)

pub returns-clause-rest : goal.returns-clause-rest
returns-clause-rest g c = rest_on c.args.self.now c.keep.new.self c.commit_full.new.self (rest_kept c.args.self.now c.keep.new.self c.keep.ensures.rest) c.commit_full.ensures.rest

pub returns-clause-known : goal.returns-clause-known
returns-clause-known g c = λ knows.
    let after = (goal.at.returns-clause-known g c).After-keep in
    c.in_ok-commit_full.ensures.known (c.in_ok-refusal.ensures.known (λ told. lawful_anywhere g after) knows)

pub returns-clause-counts : goal.returns-clause-counts
returns-clause-counts g c = done_counts (g.O.Outside.faults c.args.outside.now) (g.O.Outside.faults c.commit_full.new.outside) c.in_ok-refusal.refusal (c.in_ok-commit_full.ensures.counts.reason ∙ c.in_ok-refusal.ensures.counts.reason)

pub returns-clause-faultless : goal.returns-clause-faultless
returns-clause-faultless g c = c.in_ok-commit_full.ensures.faultless

pub commit_full-requires-clause-unheld : goal.commit_full-requires-clause-unheld
commit_full-requires-clause-unheld g c = ap held_of c.keep.ensures.rest ∙ c.requires.unheld
