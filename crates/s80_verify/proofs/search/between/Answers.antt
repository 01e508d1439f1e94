use Rattle.std.proofs.Common.{sym, arith}
use Rattle.s80_verify.proofs.lemmas.ListLemmas.{get_within}
use Rattle.s80_verify.proofs.lemmas.JumpLemmas.{none_between, between_step, all_between, below}
use Rattle.s80_verify.proofs.search.between.Goals as goal

pub loop-point-init : goal.loop-point-init
loop-point-init c = none_between c.args.code.now c.args.found.now

pub overflow_add-next : goal.overflow_add-next
overflow_add-next c = omega (arith, below c.args.code.now c.args.found.now c.loop-point.next c.in-Some.point c.requires.sound (sym c.in-Some.ensures))

pub loop-point-smaller : goal.loop-point-smaller
loop-point-smaller c = omega (arith, get_within c.args.found.now.points c.loop-point.next c.in-Some.point (sym c.in-Some.ensures))

pub loop-point-preserved : goal.loop-point-preserved
loop-point-preserved c =
    between_step c.args.code.now c.args.found.now c.loop-point.between c.set_between.new.between c.loop-point.next c.in-Some.point c.block_at.result c.requires.short c.requires.sound c.loop-point.invariant (sym c.in-Some.ensures) c.block_at.ensures c.set_between.ensures

pub returns : goal.returns
returns c = all_between c.args.code.now c.args.found.now c.loop-point.between c.loop-point.next c.requires.sound c.loop-point.invariant (sym c.in_default.ensures)
