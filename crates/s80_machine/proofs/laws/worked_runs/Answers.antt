use Rattle.std.proofs.Common.{refl}
use Rattle.s80_code.specs.Table.{row_of}
use Rattle.s80_machine.proofs.laws.worked_runs.Goals as goal

pub returns-clause-sum : goal.returns-clause-sum
unfolding row_of
returns-clause-sum c = λ t methods literals budget. (4, refl)

pub returns-clause-loop_of_five : goal.returns-clause-loop_of_five
unfolding row_of
returns-clause-loop_of_five c = λ t methods literals. (18, refl)
