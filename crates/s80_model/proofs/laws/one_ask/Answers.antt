use Rattle.s80_model.proofs.Asking.{all_ask_once, one_ask}
use Rattle.s80_model.proofs.laws.one_ask.Goals as goal

pub returns-clause-one : goal.returns-clause-one
returns-clause-one c = one_ask c.a_doit_is_told_one_thing.ensures c.there_is_one_moment.ensures.moment

pub returns-clause-all : goal.returns-clause-all
returns-clause-all c = all_ask_once c.a_doit_is_told_one_thing.ensures c.there_is_one_moment.ensures.moment
