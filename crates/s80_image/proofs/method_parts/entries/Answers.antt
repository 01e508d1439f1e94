use Rattle.std.proofs.Common.{refl}
use Rattle.std.proofs.lemmas.Result.{err_from_is_err_and}
use Rattle.s80_image.proofs.Loops.{member_fails, member_read, members_end}
use Rattle.s80_code.specs.Entries.{entries_of, entry_of}
use Rattle.s80_image.specs.Literals.{entry}
use Rattle.s80_image.proofs.method_parts.entries.Goals as goal

pub returns-in_err-item : goal.returns-in_err-item
returns-in_err-item c =
    let p = err_from_is_err_and c.from_residual.result c.from_residual.ensures.1 in
    rw (p.1, p.2) (member_fails (λ _. entry) c.args.count c.loop.counter (entries_of c.loop.frame) c.loop.rest.now _ c.in_err-item.field-0.0 (entry) (refl) c.loop-test.true c.in_err-item.ensures c.loop.invariant)

pub loop-preserved : goal.loop-preserved
loop-preserved c = member_read (λ _. entry) c.args.count c.loop.counter (entries_of c.loop.frame) c.loop.rest.now _ (entries_of c.push.new.self) (entry_of c.in_ok-item.item) c.in_ok-item.after.now (entry) (refl) c.loop-test.true c.in_ok-item.ensures (c.in_ok-push.ensures.ok) c.loop.invariant

pub returns : goal.returns
returns c = members_end (λ _. entry) c.args.count c.loop.counter (entries_of c.loop.frame) c.loop.rest.now _ c.loop-test.false c.loop.invariant
