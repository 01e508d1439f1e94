use Rattle.s80_doit.proofs.OneHouse.{told_once}
use Rattle.s80_doit.proofs.answers.a_doit_is_told_one_thing.Goals as goal

pub returns : goal.returns
returns c = λ changes text budget told other stopped also. told_once changes c.kernel_classes_last.ensures c.one_tree.ensures.method c.one_tree.ensures.doit c.answers_are_by_name.ensures text budget told other stopped also
