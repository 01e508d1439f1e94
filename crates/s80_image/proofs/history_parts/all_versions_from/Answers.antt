use Rattle.std.proofs.Common.{ap, rules}
use Rattle.std.proofs.lemmas.Result.{err_from_is_err_and}
use Rattle.s80_image.proofs.Loops.{last_key, member_fails, member_read, members_end, map_push}
use Rattle.s80_image.specs.History.{all_versions_of, versions, versions_behind, versions_of}
use Rattle.std.specs.Prelude.{option_map}
use Rattle.s80_image.proofs.history_parts.all_versions_from.Goals as goal

pub returns-in_err-next : goal.returns-in_err-next
returns-in_err-next c =
    let p = err_from_is_err_and c.from_residual.result c.from_residual.ensures.1 in
    rw (p.1, p.2) (member_fails (versions_behind) c.args.count c.loop.counter (all_versions_of c.loop.all.items) c.loop.rest.now _ c.in_err-next.field-0.0 (versions (option_map (λ v. (versions_of v.now).name) c.last.result)) (ap versions (last_key versions_of (λ v. v.name) c.last.result c.loop.all.items (search rules))) c.loop-test.true c.in_err-next.ensures c.loop.invariant)

pub loop-preserved : goal.loop-preserved
loop-preserved c = member_read (versions_behind) c.args.count c.loop.counter (all_versions_of c.loop.all.items) c.loop.rest.now _ (all_versions_of c.push.new.self.items) (versions_of c.in_ok-next.next) c.in_ok-next.after.now (versions (option_map (λ v. (versions_of v.now).name) c.last.result)) (ap versions (last_key versions_of (λ v. v.name) c.last.result c.loop.all.items (search rules))) c.loop-test.true c.in_ok-next.ensures (rw c.in_ok-push.ensures.items (map_push _ c.loop.all.items c.in_ok-next.next)) c.loop.invariant

pub returns : goal.returns
returns c = members_end (versions_behind) c.args.count c.loop.counter (all_versions_of c.loop.all.items) c.loop.rest.now _ c.loop-test.false c.loop.invariant
