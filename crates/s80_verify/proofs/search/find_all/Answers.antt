use Rattle.std.proofs.Common.{sym, arith}
use Rattle.s80_verify.specs.declared.stack.Stack.TheVariants.{OfHome}
use Rattle.s80_verify.proofs.FoundLemmas.{one_more_done, all_done}
use Rattle.s80_verify.proofs.lemmas.JumpLemmas.{below}
use Rattle.s80_verify.proofs.search.find_all.Goals as goal

pub visit-requires-clause-known : goal.visit-requires-clause-known
visit-requires-clause-known c = c.loop-point.invariant.sound.known c.loop-point.next c.in-Some.point (sym c.in-Some.ensures)

pub overflow_add-next : goal.overflow_add-next
overflow_add-next c = omega (arith, below c.args.code.now c.loop-point.found c.loop-point.next c.in-Some.point c.loop-point.invariant.sound (sym c.in-Some.ensures))

pub loop-point-smaller : goal.loop-point-smaller
loop-point-smaller c = omega (arith, below c.args.code.now c.loop-point.found c.loop-point.next c.in-Some.point c.loop-point.invariant.sound (sym c.in-Some.ensures))

pub loop-point-preserved : goal.loop-point-preserved
loop-point-preserved c =
    record {
      sound = c.in_ok-visit.ensures.sound;
      done = one_more_done c.args.code.now c.loop-point.found c.visit.new.found c.loop-point.next c.in-Some.point c.in_ok-visit.ensures.grows c.loop-point.invariant.done (sym c.in-Some.ensures) c.in_ok-visit.ensures.done;
      start = c.in_ok-visit.ensures.grows.marks OfHome 0 0 c.loop-point.invariant.start;
    }

pub returns-clause-depths : goal.returns-clause-depths
returns-clause-depths c = all_done c.args.code.now c.loop-point.found c.loop-point.next c.loop-point.invariant.sound c.loop-point.invariant.done (sym c.in_default.ensures) c.loop-point.invariant.start
