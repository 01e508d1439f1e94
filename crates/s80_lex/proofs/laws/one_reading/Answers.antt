use Rattle.s80_lex.proofs.Unique.{one_list, one_fault, not_both}
use Rattle.s80_lex.proofs.laws.one_reading.Goals as goal

pub returns-clause-tokens : goal.returns-clause-tokens
returns-clause-tokens c = one_list

pub returns-clause-faults : goal.returns-clause-faults
returns-clause-faults c = one_fault

pub returns-clause-apart : goal.returns-clause-apart
returns-clause-apart c = not_both
