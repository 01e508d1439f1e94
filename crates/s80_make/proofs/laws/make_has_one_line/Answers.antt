use Rattle.s80_make.specs.Tally.{nothing}
use Rattle.s80_make.proofs.One.{all_counted_once, one_list}
use Rattle.s80_make.proofs.laws.make_has_one_line.Goals as goal

pub returns-clause-asks : goal.returns-clause-asks
returns-clause-asks c = λ work count asks others. one_list c.one_ask.ensures.all work count asks others

pub returns-clause-tally : goal.returns-clause-tally
returns-clause-tally c = λ work asks tally other. all_counted_once c.a_doit_answers_one_small.ensures work asks nothing tally other
