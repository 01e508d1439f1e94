use Rattle.s80_doit.proofs.Ran.{has_known_answer}
use Rattle.s80_doit.proofs.evaluation.answer.Goals as goal

pub outcome_text-requires-clause-kernel : goal.outcome_text-requires-clause-kernel
outcome_text-requires-clause-kernel c = rw c.classes.ensures.table c.kernel_is_there.ensures

pub outcome_text-requires-clause-answer : goal.outcome_text-requires-clause-answer
outcome_text-requires-clause-answer c =
    rw (c.classes.ensures.table, c.outcome.ensures)
    (has_known_answer c.args.system.now.table c.args.ran.now.outcome.objects c.args.ran.now.outcome.end c.requires.answer)

pub outcome_text-requires-clause-objects : goal.outcome_text-requires-clause-objects
outcome_text-requires-clause-objects c = rw (c.classes.ensures.table, c.outcome.ensures) c.requires.objects
