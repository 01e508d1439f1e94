use Rattle.std.proofs.Common.{sym, arith}
use Rattle.s80_verify.proofs.lemmas.ListLemmas.{get_within}
use Rattle.s80_verify.proofs.lemmas.JumpLemmas.{clear_more, all_clear, below}
use Rattle.s80_verify.proofs.search.check_jumps.Goals as goal

pub check_jump-requires-clause-reached : goal.check_jump-requires-clause-reached
check_jump-requires-clause-reached c =
    (c.in-Some.point.stack, c.in-Some.point.depth, (c.requires.sound.known c.loop-point.next c.in-Some.point (sym c.in-Some.ensures)).reached)

pub overflow_add-next : goal.overflow_add-next
overflow_add-next c = omega (arith, below c.args.code.now c.args.found.now c.loop-point.next c.in-Some.point c.requires.sound (sym c.in-Some.ensures))

pub loop-point-smaller : goal.loop-point-smaller
loop-point-smaller c = omega (arith, get_within c.args.found.now.points c.loop-point.next c.in-Some.point (sym c.in-Some.ensures))

pub loop-point-preserved : goal.loop-point-preserved
loop-point-preserved c =
    clear_more c.args.code.now c.args.found.now c.loop-point.next c.in-Some.point c.loop-point.invariant (sym c.in-Some.ensures) c.in_ok-check_jump.ensures.clear

pub returns-clause-clear : goal.returns-clause-clear
returns-clause-clear c = all_clear c.args.code.now c.args.found.now c.loop-point.next c.requires.sound c.loop-point.invariant (sym c.in_default.ensures)
