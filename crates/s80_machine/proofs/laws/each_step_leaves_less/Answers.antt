use Rattle.s80_machine.proofs.LeftTurn.{begins_within, leaves_less}
use Rattle.s80_machine.proofs.laws.each_step_leaves_less.Goals as goal

pub returns-clause-begins : goal.returns-clause-begins
returns-clause-begins c = λ t methods code budget s e. begins_within t methods code budget s e

pub returns-clause-goes_on : goal.returns-clause-goes_on
returns-clause-goes_on c = λ t methods code budget s next sound within e. leaves_less t methods code budget s next sound within e
