use Rattle.s80_machine.proofs.RunsEnd.{run_ends}
use Rattle.s80_machine.proofs.laws.a_run_ends.Goals as goal

pub returns : goal.returns
returns c = λ t methods code budget setting.
    run_ends t methods code budget (c.verified_code_is_never_stuck.ensures.goes_on t methods code budget setting)
    (c.verified_code_is_never_stuck.ensures.begins t methods code budget setting)
