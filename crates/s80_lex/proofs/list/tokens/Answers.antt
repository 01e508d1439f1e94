use Rattle.std.proofs.Common.{subst, sym, ◌+◌}
use Rattle.s80_lex.proofs.lemmas.Parts.{Up, up_more, up_all}
use Rattle.s80_lex.proofs.lemmas.Slices.{slices, in_order}
use Rattle.s80_lex.proofs.list.tokens.Goals as goal

pub loop-place-preserved : goal.loop-place-preserved
loop-place-preserved c =
    subst (λ l. Up l (c.loop-place.place + c.in-Ok.found.1) c.args.bytes.now) (sym c.in_ok-add.ensures.ok)
    (up_more c.loop-place.tokens.items c.loop-place.place c.in-Ok.found.1 c.in-Ok.found.0 c.args.bytes.now c.loop-place.invariant c.in-Ok.ensures)

pub returns-clause-slices : goal.returns-clause-slices
returns-clause-slices c = slices c.loop-place.tokens.items c.args.bytes.now (up_all c.loop-place.tokens.items c.loop-place.place c.args.bytes.now c.loop-place-test.false c.loop-place.invariant)

pub returns-clause-ordered : goal.returns-clause-ordered
returns-clause-ordered c = in_order c.loop-place.tokens.items c.args.bytes.now (up_all c.loop-place.tokens.items c.loop-place.place c.args.bytes.now c.loop-place-test.false c.loop-place.invariant)
