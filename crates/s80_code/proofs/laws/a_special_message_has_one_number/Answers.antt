use Rattle.s80_code.proofs.lemmas.SpecialLemmas.{columns as columns_law, copy_law, number_law, sent_law}
use Rattle.s80_code.proofs.laws.a_special_message_has_one_number.Goals as goal

pub returns-clause-columns : goal.returns-clause-columns
returns-clause-columns c = columns_law

pub returns-clause-numbers : goal.returns-clause-numbers
returns-clause-numbers c = number_law

pub returns-clause-copy : goal.returns-clause-copy
returns-clause-copy c = copy_law

pub returns-clause-sent : goal.returns-clause-sent
returns-clause-sent c = sent_law
