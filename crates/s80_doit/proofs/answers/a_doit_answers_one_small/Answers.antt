use Rattle.s80_doit.proofs.OneHouse.{one_small}
use Rattle.s80_doit.proofs.answers.a_doit_answers_one_small.Goals as goal

pub returns : goal.returns
returns c = λ changes text budget told other stopped also small another. one_small changes c.kernel_classes_last.ensures c.one_tree.ensures.method c.one_tree.ensures.doit c.answers_are_by_name.ensures text budget told other stopped also small another
