use Rattle.std.proofs.Common.{ap, rules}
use Rattle.std.proofs.lemmas.Result.{err_from_is_err_and}
use Rattle.s80_image.proofs.Loops.{member_fails, member_read, members_end}
use Rattle.s80_image.specs.History.{noted, noted_behind}
use Rattle.s80_image.proofs.history_parts.change_set_from.Goals as goal

pub returns-in_err-member : goal.returns-in_err-member
returns-in_err-member c =
    let p = err_from_is_err_and c.from_residual.result c.from_residual.ensures.1 in
    rw (p.1, p.2) (member_fails (noted_behind) c.args.count c.loop.counter (c.loop.set.items) c.loop.rest.now _ c.in_err-member.field-0.0 (noted c.last_noted.result) (ap noted (search rules)) c.loop-test.true c.in_err-member.ensures c.loop.invariant)

pub loop-preserved : goal.loop-preserved
loop-preserved c = member_read (noted_behind) c.args.count c.loop.counter (c.loop.set.items) c.loop.rest.now _ (c.push.new.self.items) (c.in_ok-member.member) c.in_ok-member.after.now (noted c.last_noted.result) (ap noted (search rules)) c.loop-test.true c.in_ok-member.ensures (c.in_ok-push.ensures.items) c.loop.invariant

pub returns : goal.returns
returns c = members_end (noted_behind) c.args.count c.loop.counter (c.loop.set.items) c.loop.rest.now _ c.loop-test.false c.loop.invariant
