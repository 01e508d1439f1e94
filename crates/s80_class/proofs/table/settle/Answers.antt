use Rattle.std.proofs.Common.{sym, subst, take, get_or, set, arith}
use Rattle.std.proofs.lemmas.List.{take_more}
use Rattle.std.proofs.lemmas.Option.{slice_get-get_or}
use Rattle.s80_class.specs.Counted.{nothing}
use Rattle.s80_class.specs.Family.{Found}
use Rattle.s80_class.specs.Totalled.{IsSettled}
use Rattle.s80_class.proofs.Settled.{settled_none, settled_more}
use Rattle.s80_class.proofs.table.settle.Goals as goal

pub loop-number-init : goal.loop-number-init
loop-number-init c = settled_none c.args.totals.now

pub loop-number-preserved : goal.loop-number-preserved
loop-number-preserved c =
    let found = c.args.found.now in
    let i = c.loop-number.number-index in
    let lt = c.loop-number-test.true in
    let p : Found = get_or found i (0, nothing) in
    let within = c.requires i p (slice_get-get_or found i (0, nothing) lt) in
    subst (λ xs. IsSettled xs c.args.totals.now (set c.loop-number.totals p.0 p.1)) (sym (take_more found i (0, nothing) lt))
    (settled_more (take i found) p c.args.totals.now c.loop-number.totals c.loop-number.invariant (omega (arith, within, c.loop-number.invariant.size)))
