use Rattle.std.proofs.Common.{refl, sym, ap, subst, ◌∙◌}
use Rattle.std.proofs.lemmas.Result.{err_from_is_err_and}
use Rattle.s80_disk.specs.Moments.{LeavesOnly}
use Rattle.s80_disk.proofs.lemmas.Showing.{told_beside}
use Rattle.s80_joining.specs.declared.outcome.Outcome.{Outcome}
use Rattle.s80_joining.specs.Answer.{reply_text}
use Rattle.s80_joining.specs.Given.{JoinsLawful}
use Rattle.s80_joining.specs.Outcome.{is_trouble, list_after_merging}
use Rattle.s80_session.specs.declared.merge.MergeReply.{MergeReply}
use Rattle.s80_session.specs.Merging.{JoinKeeps, RepliesTo}
use Rattle.s80_session.proofs.Breaking.{done_counts, memory_counts}
use Rattle.s80_session.proofs.Joining.{done_at_rest, half_at_rest, joining_starts, rest_stays}
use Rattle.s80_session.proofs.session.Session.reply_to.Goals as goal

-- it is refused

pub returns-in_err-refusal_line-in-Refused-clause-replied : goal.returns-in_err-refusal_line-in-Refused-clause-replied
returns-in_err-refusal_line-in-Refused-clause-replied g c = λ work put at.
    let p = err_from_is_err_and c.from_residual.result c.from_residual.ensures.1 in
    rw (p.1, p.2) (half_at_rest (g.O.Disk.may_leave c.args.outside.now) (g.O.Outside.shown c.args.outside.now) c.args.self.now work put c.args.outcome at)

pub returns-in_err-refusal_line-in-Refused-clause-any_moment : goal.returns-in_err-refusal_line-in-Refused-clause-any_moment
returns-in_err-refusal_line-in-Refused-clause-any_moment g c = λ work put at.
    joining_starts g.O.Disk.moment g.O.Disk.left_since (g.O.Disk.may_leave c.args.outside.now) (g.O.Outside.shown c.args.outside.now) c.args.self.now c.args.outside.now work put c.args.outcome (λ told image left. let x = g.met.O.Disk.only_now c.args.outside.now told image left in (x.0, x.1 ∙ told_beside g.met.O.Outside.beside_is g.met.O.Outside.shown_is c.args.outside.now)) at

pub returns-in_err-refusal_line-in-Refused-clause-counts : goal.returns-in_err-refusal_line-in-Refused-clause-counts
returns-in_err-refusal_line-in-Refused-clause-counts g c =
    let p = err_from_is_err_and c.from_residual.result c.from_residual.ensures.1 in
    rw (p.1, p.2) (memory_counts MergeReply (g.O.Outside.faults c.args.outside.now) (g.O.Outside.faults c.args.outside.now) refl)

pub returns-in_err-refusal_line-in-Refused-clause-known : goal.returns-in_err-refusal_line-in-Refused-clause-known
returns-in_err-refusal_line-in-Refused-clause-known g c = λ knows.
    let p = err_from_is_err_and c.from_residual.result c.from_residual.ensures.1 in
    rw (p.1, p.2) tt

pub returns-in_err-refusal_line-in-Refused-clause-faultless : goal.returns-in_err-refusal_line-in-Refused-clause-faultless
returns-in_err-refusal_line-in-Refused-clause-faultless g c =
    let p = err_from_is_err_and c.from_residual.result c.from_residual.ensures.1 in
    rw (p.1, p.2) c.requires.resting.faultless

pub returns-in_err-refusal_line-in-Refused-clause-rest : goal.returns-in_err-refusal_line-in-Refused-clause-rest
returns-in_err-refusal_line-in-Refused-clause-rest g c = rest_stays c.args.self.now

pub returns-in_ok-refusal_line-in-Refused-clause-replied : goal.returns-in_ok-refusal_line-in-Refused-clause-replied
returns-in_ok-refusal_line-in-Refused-clause-replied g c = λ work put at.
    let is = c.in-Refused.is in
    let text = ap (λ (r : MergeReply). r.text) c.trouble.ensures ∙ c.in_ok-refusal_line-in-Refused.ensures ∙ ap (reply_text work.changes) (sym is) in
    let trouble = ap (λ (r : MergeReply). r.is_trouble) c.trouble.ensures ∙ ap (is_trouble work.changes) (sym is) in
    done_at_rest (g.O.Disk.may_leave c.args.outside.now) (g.O.Outside.shown c.args.outside.now) c.args.self.now work put c.args.outcome c.trouble.result (ap (list_after_merging work.changes) is) at text trouble

pub returns-in_ok-refusal_line-in-Refused-clause-any_moment : goal.returns-in_ok-refusal_line-in-Refused-clause-any_moment
returns-in_ok-refusal_line-in-Refused-clause-any_moment g c = λ work put at.
    joining_starts g.O.Disk.moment g.O.Disk.left_since (g.O.Disk.may_leave c.args.outside.now) (g.O.Outside.shown c.args.outside.now) c.args.self.now c.args.outside.now work put c.args.outcome (λ told image left. let x = g.met.O.Disk.only_now c.args.outside.now told image left in (x.0, x.1 ∙ told_beside g.met.O.Outside.beside_is g.met.O.Outside.shown_is c.args.outside.now)) at

pub returns-in_ok-refusal_line-in-Refused-clause-counts : goal.returns-in_ok-refusal_line-in-Refused-clause-counts
returns-in_ok-refusal_line-in-Refused-clause-counts g c = done_counts (g.O.Outside.faults c.args.outside.now) (g.O.Outside.faults c.args.outside.now) c.trouble.result refl

pub returns-in_ok-refusal_line-in-Refused-clause-rest : goal.returns-in_ok-refusal_line-in-Refused-clause-rest
returns-in_ok-refusal_line-in-Refused-clause-rest g c = rest_stays c.args.self.now

-- there are conflicts

pub returns-in_err-conflict_lines-in-Conflicts-clause-replied : goal.returns-in_err-conflict_lines-in-Conflicts-clause-replied
returns-in_err-conflict_lines-in-Conflicts-clause-replied g c = λ work put at.
    let p = err_from_is_err_and c.from_residual-in_err-conflict_lines-in-Conflicts.result c.from_residual-in_err-conflict_lines-in-Conflicts.ensures.1 in
    rw (p.1, p.2) (half_at_rest (g.O.Disk.may_leave c.args.outside.now) (g.O.Outside.shown c.args.outside.now) c.args.self.now work put c.args.outcome at)

pub returns-in_err-conflict_lines-in-Conflicts-clause-any_moment : goal.returns-in_err-conflict_lines-in-Conflicts-clause-any_moment
returns-in_err-conflict_lines-in-Conflicts-clause-any_moment g c = λ work put at.
    joining_starts g.O.Disk.moment g.O.Disk.left_since (g.O.Disk.may_leave c.args.outside.now) (g.O.Outside.shown c.args.outside.now) c.args.self.now c.args.outside.now work put c.args.outcome (λ told image left. let x = g.met.O.Disk.only_now c.args.outside.now told image left in (x.0, x.1 ∙ told_beside g.met.O.Outside.beside_is g.met.O.Outside.shown_is c.args.outside.now)) at

pub returns-in_err-conflict_lines-in-Conflicts-clause-counts : goal.returns-in_err-conflict_lines-in-Conflicts-clause-counts
returns-in_err-conflict_lines-in-Conflicts-clause-counts g c =
    let p = err_from_is_err_and c.from_residual-in_err-conflict_lines-in-Conflicts.result c.from_residual-in_err-conflict_lines-in-Conflicts.ensures.1 in
    rw (p.1, p.2) (memory_counts MergeReply (g.O.Outside.faults c.args.outside.now) (g.O.Outside.faults c.args.outside.now) refl)

pub returns-in_err-conflict_lines-in-Conflicts-clause-known : goal.returns-in_err-conflict_lines-in-Conflicts-clause-known
returns-in_err-conflict_lines-in-Conflicts-clause-known g c = λ knows.
    let p = err_from_is_err_and c.from_residual-in_err-conflict_lines-in-Conflicts.result c.from_residual-in_err-conflict_lines-in-Conflicts.ensures.1 in
    rw (p.1, p.2) tt

pub returns-in_err-conflict_lines-in-Conflicts-clause-faultless : goal.returns-in_err-conflict_lines-in-Conflicts-clause-faultless
returns-in_err-conflict_lines-in-Conflicts-clause-faultless g c =
    let p = err_from_is_err_and c.from_residual-in_err-conflict_lines-in-Conflicts.result c.from_residual-in_err-conflict_lines-in-Conflicts.ensures.1 in
    rw (p.1, p.2) c.requires.resting.faultless

pub returns-in_err-conflict_lines-in-Conflicts-clause-rest : goal.returns-in_err-conflict_lines-in-Conflicts-clause-rest
returns-in_err-conflict_lines-in-Conflicts-clause-rest g c = rest_stays c.args.self.now

pub returns-in_ok-conflict_lines-in-Conflicts-clause-replied : goal.returns-in_ok-conflict_lines-in-Conflicts-clause-replied
returns-in_ok-conflict_lines-in-Conflicts-clause-replied g c = λ work put at.
    let is = c.in-Conflicts.is in
    let text = ap (λ (r : MergeReply). r.text) c.trouble-in-Conflicts.ensures ∙ c.in_ok-conflict_lines-in-Conflicts.ensures ∙ ap (reply_text work.changes) (sym is) in
    let trouble = ap (λ (r : MergeReply). r.is_trouble) c.trouble-in-Conflicts.ensures ∙ ap (is_trouble work.changes) (sym is) in
    done_at_rest (g.O.Disk.may_leave c.args.outside.now) (g.O.Outside.shown c.args.outside.now) c.args.self.now work put c.args.outcome c.trouble-in-Conflicts.result (ap (list_after_merging work.changes) is) at text trouble

pub returns-in_ok-conflict_lines-in-Conflicts-clause-any_moment : goal.returns-in_ok-conflict_lines-in-Conflicts-clause-any_moment
returns-in_ok-conflict_lines-in-Conflicts-clause-any_moment g c = λ work put at.
    joining_starts g.O.Disk.moment g.O.Disk.left_since (g.O.Disk.may_leave c.args.outside.now) (g.O.Outside.shown c.args.outside.now) c.args.self.now c.args.outside.now work put c.args.outcome (λ told image left. let x = g.met.O.Disk.only_now c.args.outside.now told image left in (x.0, x.1 ∙ told_beside g.met.O.Outside.beside_is g.met.O.Outside.shown_is c.args.outside.now)) at

pub returns-in_ok-conflict_lines-in-Conflicts-clause-counts : goal.returns-in_ok-conflict_lines-in-Conflicts-clause-counts
returns-in_ok-conflict_lines-in-Conflicts-clause-counts g c = done_counts (g.O.Outside.faults c.args.outside.now) (g.O.Outside.faults c.args.outside.now) c.trouble-in-Conflicts.result refl

pub returns-in_ok-conflict_lines-in-Conflicts-clause-rest : goal.returns-in_ok-conflict_lines-in-Conflicts-clause-rest
returns-in_ok-conflict_lines-in-Conflicts-clause-rest g c = rest_stays c.args.self.now

-- changes are added

pub add_theirs-requires-clause-lawful : goal.add_theirs-requires-clause-lawful
add_theirs-requires-clause-lawful g c = subst JoinsLawful c.in-Joins.is c.requires.lawful

pub returns-in-Joins-clause-replied : goal.returns-in-Joins-clause-replied
returns-in-Joins-clause-replied g c = λ work put at.
    let P : Outcome → Type 0 = λ o. RepliesTo c.add_theirs.result (g.O.Disk.may_leave c.add_theirs.new.outside) (g.O.Outside.shown c.add_theirs.new.outside) c.add_theirs.new.self work put o in
    subst P (sym c.in-Joins.is) (c.add_theirs.ensures.replied work put at)

pub returns-in-Joins-clause-any_moment : goal.returns-in-Joins-clause-any_moment
returns-in-Joins-clause-any_moment g c = λ work put at.
    let P : Outcome → Type 0 = λ o. LeavesOnly g.O.Disk.moment g.O.Disk.left_since c.args.outside.now c.add_theirs.new.outside (JoinKeeps work o put) in
    subst P (sym c.in-Joins.is) (c.add_theirs.ensures.any_moment work put at)
