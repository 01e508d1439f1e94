use Rattle.s80_apply.proofs.LastingWithin.{within_last}
use Rattle.s80_apply.proofs.lasting.classes_have_few_variables.Goals as goal

pub returns-clause-instance : goal.returns-clause-instance
returns-clause-instance c = λ changes name row is. (within_last changes).inst_vars name row is

pub returns-clause-class : goal.returns-clause-class
returns-clause-class c = λ changes name row is. (within_last changes).class_side_vars name row is
