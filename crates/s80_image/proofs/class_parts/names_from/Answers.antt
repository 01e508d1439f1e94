use Rattle.std.proofs.Common.{refl}
use Rattle.std.proofs.lemmas.Result.{err_from_is_err_and}
use Rattle.s80_image.proofs.Loops.{member_fails, member_read, members_end}
use Rattle.std.specs.Prelude.{option_copied}
use Rattle.s80_image.specs.Format.{text_where}
use Rattle.s80_image.specs.Classes.{may_stand}
use Rattle.s80_image.proofs.class_parts.names_from.Goals as goal

pub returns-in_err-name : goal.returns-in_err-name
returns-in_err-name c =
    let p = err_from_is_err_and c.from_residual.result c.from_residual.ensures.1 in
    rw (p.1, p.2) (member_fails (λ before. text_where (may_stand (option_copied c.args.given) before)) c.args.count c.loop.counter (c.loop.names) c.loop.rest.now _ c.in_err-name.field-0.0 (text_where (may_stand (option_copied c.args.given) c.loop.names)) (refl) c.loop-test.true c.in_err-name.ensures c.loop.invariant)

pub loop-preserved : goal.loop-preserved
loop-preserved c = member_read (λ before. text_where (may_stand (option_copied c.args.given) before)) c.args.count c.loop.counter (c.loop.names) c.loop.rest.now _ (c.push.new.self) (c.in_ok-name.name) c.in_ok-name.after.now (text_where (may_stand (option_copied c.args.given) c.loop.names)) (refl) c.loop-test.true c.in_ok-name.ensures (c.in_ok-push.ensures.ok) c.loop.invariant

pub returns : goal.returns
returns c = members_end (λ before. text_where (may_stand (option_copied c.args.given) before)) c.args.count c.loop.counter (c.loop.names) c.loop.rest.now _ c.loop-test.false c.loop.invariant
