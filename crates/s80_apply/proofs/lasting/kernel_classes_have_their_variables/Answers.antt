use Rattle.s80_apply.specs.List.{classes_of}
use Rattle.s80_apply.proofs.LastingKernel.{stands_last, kernel_inst_vars, kernel_class_side_vars, message_inst_vars}
use Rattle.s80_apply.proofs.lasting.kernel_classes_have_their_variables.Goals as goal

pub returns-clause-instance : goal.returns-clause-instance
returns-clause-instance c = λ changes name is differs. kernel_inst_vars (classes_of changes) (stands_last changes) name is differs

pub returns-clause-message : goal.returns-clause-message
returns-clause-message c = λ changes. message_inst_vars (classes_of changes) (stands_last changes)

pub returns-clause-class : goal.returns-clause-class
returns-clause-class c = λ changes name is. kernel_class_side_vars (classes_of changes) (stands_last changes) name is
