use Rattle.std.proofs.Common.{ap, rules}
use Rattle.std.proofs.lemmas.Result.{err_from_is_err_and}
use Rattle.s80_image.proofs.Loops.{member_fails, member_read, members_end}
use Rattle.s80_image.specs.Parts.{last_of, place_above}
use Rattle.s80_image.proofs.history_parts.places_from.Goals as goal

pub returns-in_err-place : goal.returns-in_err-place
returns-in_err-place c =
    let p = err_from_is_err_and c.from_residual.result c.from_residual.ensures.1 in
    rw (p.1, p.2) (member_fails (λ before. place_above (last_of before)) c.args.count c.loop.counter (c.loop.places.items) c.loop.rest.now _ c.in_err-place.field-0.0 (place_above c.last_place.result) (ap place_above (search rules)) c.loop-test.true c.in_err-place.ensures c.loop.invariant)

pub loop-preserved : goal.loop-preserved
loop-preserved c = member_read (λ before. place_above (last_of before)) c.args.count c.loop.counter (c.loop.places.items) c.loop.rest.now _ (c.push.new.self.items) (c.in_ok-place.place) c.in_ok-place.after.now (place_above c.last_place.result) (ap place_above (search rules)) c.loop-test.true c.in_ok-place.ensures (c.in_ok-push.ensures.items) c.loop.invariant

pub returns : goal.returns
returns c = members_end (λ before. place_above (last_of before)) c.args.count c.loop.counter (c.loop.places.items) c.loop.rest.now _ c.loop-test.false c.loop.invariant
