use Rattle.std.proofs.Common.{refl, ap, ◌∙◌}
use Rattle.std.specs.Prelude.{◌||◌}
use Rattle.std.proofs.lemmas.Result.{err_from_is_err_and}
use Rattle.s80_joining.specs.Answer.{reply_text}
use Rattle.s80_session.specs.declared.merge.MergeReply.{MergeReply}
use Rattle.s80_session.specs.Session.{held_of, troubled_of, was_of}
use Rattle.s80_session.proofs.Breaking.{err_counts_on, flush_calm, memory_counts, memory_only}
use Rattle.s80_session.proofs.Holding.{counts_on}
use Rattle.s80_session.proofs.Joining.{done_half, text_flushed, text_lasts, text_only}
use Rattle.s80_session.proofs.Knowing.{ends_so, knows_alike}
use Rattle.s80_session.proofs.session.Session.join_and_tell.Goals as goal

-- not all is done

pub returns-in_err-reply-clause-joined : goal.returns-in_err-reply-clause-joined
returns-in_err-reply-clause-joined g c = λ work put at.
    let p = err_from_is_err_and c.from_residual.result c.from_residual.ensures.1 in
    rw (p.1, p.2) (c.in_err-reply.ensures.replied work put at)

pub returns-in_err-reply-clause-any_moment : goal.returns-in_err-reply-clause-any_moment
returns-in_err-reply-clause-any_moment g c = c.reply_to.ensures.any_moment

pub returns-in_err-reply-clause-last_run : goal.returns-in_err-reply-clause-last_run
returns-in_err-reply-clause-last_run g c = c.reply_to.ensures.rest.last_run

pub returns-in_err-reply-clause-known : goal.returns-in_err-reply-clause-known
returns-in_err-reply-clause-known g c = λ knows.
    let p = err_from_is_err_and c.from_residual.result c.from_residual.ensures.1 in
    rw (p.1, p.2) (ends_so MergeReply (Unit {0}) c.in_err-reply.field-0.0 (g.O.Outside.shown c.reply_to.new.outside) c.reply_to.new.self (c.in_err-reply.ensures.known knows))

pub returns-in_err-reply-clause-counts : goal.returns-in_err-reply-clause-counts
returns-in_err-reply-clause-counts g c =
    let a = g.O.Outside.faults c.args.outside.now in
    let b = g.O.Outside.faults c.reply_to.new.outside in
    let p = err_from_is_err_and c.from_residual.result c.from_residual.ensures.1 in
    rw (p.1, p.2) (err_counts_on MergeReply (Unit {0}) a a b c.in_err-reply.field-0.0 refl c.in_err-reply.ensures.counts)

pub returns-in_err-reply-clause-faultless : goal.returns-in_err-reply-clause-faultless
returns-in_err-reply-clause-faultless g c =
    let p = err_from_is_err_and c.from_residual.result c.from_residual.ensures.1 in
    rw (p.1, p.2) (memory_only (Unit {0}) MergeReply _ c.in_err-reply.field-0.0 c.in_err-reply.ensures.faultless)

-- memory is wanting to hold what it is told

pub returns-in_err-hold-clause-joined : goal.returns-in_err-hold-clause-joined
returns-in_err-hold-clause-joined g c = λ work put at.
    let d = c.in_ok-reply.ensures.replied work put at in
    let p = err_from_is_err_and c.from_residual-in_err-hold.result c.from_residual-in_err-hold.ensures.1 in
    rw (p.1, p.2) (done_half (g.O.Disk.may_leave c.reply_to.new.outside) (g.O.Outside.shown c.reply_to.new.outside) c.reply_to.new.self work put c.args.outcome c.in_ok-reply.reply d (record c.reply_to.new.self { held = c.hold.new.self }) refl refl refl refl c.in_err-hold.ensures.same)

pub returns-in_err-hold-clause-any_moment : goal.returns-in_err-hold-clause-any_moment
returns-in_err-hold-clause-any_moment g c = c.reply_to.ensures.any_moment

pub returns-in_err-hold-clause-last_run : goal.returns-in_err-hold-clause-last_run
returns-in_err-hold-clause-last_run g c = c.reply_to.ensures.rest.last_run

pub returns-in_err-hold-clause-known : goal.returns-in_err-hold-clause-known
returns-in_err-hold-clause-known g c = λ knows.
    let p = err_from_is_err_and c.from_residual-in_err-hold.result c.from_residual-in_err-hold.ensures.1 in
    rw (p.1, p.2) tt

pub returns-in_err-hold-clause-counts : goal.returns-in_err-hold-clause-counts
returns-in_err-hold-clause-counts g c =
    let p = err_from_is_err_and c.from_residual-in_err-hold.result c.from_residual-in_err-hold.ensures.1 in
    rw (p.1, p.2) (memory_counts (Unit {0}) (g.O.Outside.faults c.args.outside.now) (g.O.Outside.faults c.reply_to.new.outside) c.in_ok-reply.ensures.counts.reason)

pub returns-in_err-hold-clause-faultless : goal.returns-in_err-hold-clause-faultless
returns-in_err-hold-clause-faultless g c =
    let p = err_from_is_err_and c.from_residual-in_err-hold.result c.from_residual-in_err-hold.ensures.1 in
    rw (p.1, p.2) c.in_ok-reply.ensures.faultless

-- it is flushed

pub returns-clause-joined : goal.returns-clause-joined
returns-clause-joined g c = λ work put at.
    let d = c.in_ok-reply.ensures.replied work put at in
    let held = text_only c.hold.new.self.bytes (held_of c.reply_to.new.self) c.bytes.result.now c.in_ok-reply.reply.text (reply_text work.changes c.args.outcome) c.in_ok-hold.ensures.bytes c.reply_to.ensures.held c.bytes.ensures d.text_is in
    let noted = c.flush.ensures.rest.troubled ∙ ap (λ b. b || c.in_ok-reply.reply.is_trouble) c.reply_to.ensures.rest.troubled in
    text_flushed (g.O.Disk.may_leave c.reply_to.new.outside) (g.O.Outside.shown c.reply_to.new.outside) c.reply_to.new.self work put c.args.outcome c.in_ok-reply.reply d (record c.reply_to.new.self { held = c.hold.new.self; troubled = (troubled_of c.reply_to.new.self || c.in_ok-reply.reply.is_trouble) }) refl refl refl refl held c.flush.result (g.O.Disk.may_leave c.flush.new.outside) (g.O.Outside.shown c.flush.new.outside) c.flush.new.self (was_of c.args.self.now) noted c.flush.ensures.flushed

pub returns-clause-any_moment : goal.returns-clause-any_moment
returns-clause-any_moment g c = λ work put at.
    let d = c.in_ok-reply.ensures.replied work put at in
    let held = text_only c.hold.new.self.bytes (held_of c.reply_to.new.self) c.bytes.result.now c.in_ok-reply.reply.text (reply_text work.changes c.args.outcome) c.in_ok-hold.ensures.bytes c.reply_to.ensures.held c.bytes.ensures d.text_is in
    text_lasts (g.O.Disk.may_leave c.reply_to.new.outside) (g.O.Outside.shown c.reply_to.new.outside) c.reply_to.new.self work put c.args.outcome c.in_ok-reply.reply d (record c.reply_to.new.self { held = c.hold.new.self; troubled = (troubled_of c.reply_to.new.self || c.in_ok-reply.reply.is_trouble) }) refl refl refl refl held g.O.Disk.moment g.O.Disk.left_since c.args.outside.now c.reply_to.new.outside c.flush.new.outside (c.reply_to.ensures.any_moment work put at) c.flush.ensures.any_moment

pub returns-clause-last_run : goal.returns-clause-last_run
returns-clause-last_run g c = c.flush.ensures.rest.last_run ∙ c.reply_to.ensures.rest.last_run

pub returns-clause-known : goal.returns-clause-known
returns-clause-known g c = λ knows.
    c.flush.ensures.known (knows_alike (g.O.Outside.shown c.reply_to.new.outside) c.reply_to.new.self (record c.reply_to.new.self { held = c.hold.new.self; troubled = (troubled_of c.reply_to.new.self || c.in_ok-reply.reply.is_trouble) }) refl refl (c.in_ok-reply.ensures.known knows))

pub returns-clause-counts : goal.returns-clause-counts
returns-clause-counts g c =
    let a = g.O.Outside.faults c.args.outside.now in
    let m = g.O.Outside.faults c.reply_to.new.outside in
    let b = g.O.Outside.faults c.flush.new.outside in
    (counts_on a m b c.flush.result c.flush.ensures.counts c.in_ok-reply.ensures.counts.reason).0

pub returns-clause-faultless : goal.returns-clause-faultless
returns-clause-faultless g c = flush_calm c.flush.result c.flush.new.self c.flush.ensures.resting c.flush.ensures.ends
