use Rattle.s80_machine.proofs.Runs.{runs_to_one}
use Rattle.s80_machine.proofs.laws.a_run_has_one_outcome.Goals as goal

pub returns : goal.returns
returns c = λ t methods code budget one other r q. runs_to_one t methods code budget one other r q
