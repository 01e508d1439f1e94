use Rattle.std.proofs.Common.{refl}
use Rattle.s80_verify.specs.Effect.{takes, leaves}
use Rattle.s80_verify.proofs.lemmas.JumpLemmas.{are_steps, lands_well, step_equal}
use Rattle.s80_verify.proofs.search.steps_of.Goals as goal

pub returns-clause-fits : goal.returns-clause-fits
returns-clause-fits c =
    record {
      instruction = c.in_ok-instruction.instruction;
      next = c.in_ok-instruction.next;
      stands = c.in_ok-instruction.ensures.stands;
      enough = c.in_ok-check_fit.ensures.enough;
      room = c.requires.room;
      suits = c.in_ok-check_fit.ensures.suits;
      lands = lands_well c.args.code.now c.in_ok-instruction.instruction c.in_ok-instruction.next c.in_ok-to.to c.in_ok-to.ensures.target;
    }

pub returns-clause-steps : goal.returns-clause-steps
returns-clause-steps c =
    are_steps c.args.code.now c.args.point c.in_ok-instruction.instruction c.in_ok-instruction.next c.in_ok-to.to c.block_at.result _
    (record {
      stands = c.in_ok-instruction.ensures.stands;
      enough = c.in_ok-check_fit.ensures.enough;
      target = c.in_ok-to.ensures.target;
      beginning = c.block_at.ensures;
      behind = step_equal c.behind.result _ c.point_at.result c.args.point.stack c.args.point.depth c.takes.result c.leaves.result (takes c.in_ok-instruction.instruction) (leaves c.in_ok-instruction.instruction) c.takes.ensures c.leaves.ensures.value c.behind.ensures c.point_at.ensures;
      jump = step_equal c.in_ok-to.to c.in_ok-to.to c.point_at-2.result c.args.point.stack c.args.point.depth c.takes.result c.leaves.result (takes c.in_ok-instruction.instruction) (leaves c.in_ok-instruction.instruction) c.takes.ensures c.leaves.ensures.value refl c.point_at-2.ensures;
      start = c.start_of.ensures;
    })
