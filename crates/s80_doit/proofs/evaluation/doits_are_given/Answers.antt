use Rattle.std.proofs.Common.{subst}
use Rattle.s80_class.specs.Known.{IsKnown}
use Rattle.s80_doit.proofs.Setting.{Laws, setting_of}
use Rattle.s80_doit.proofs.evaluation.doits_are_given.Goals as goal

pub returns-clause-setting : goal.returns-clause-setting
returns-clause-setting c = λ text code is.
    let known : IsKnown c.args.system.now.table = subst IsKnown c.classes-classes.ensures.table c.count-count.ensures.known in
    let laws : Laws = record {
      lasts = c.kernel_classes_last.ensures;
      plain = c.kernel_classes_have_their_variables.ensures.instance;
      message = c.kernel_classes_have_their_variables.ensures.message;
      bits = c.classes_of_bits_have_no_variables.ensures;
      few = c.classes_have_few_variables.ensures.instance;
      few_of_class = c.classes_have_few_variables.ensures.class;
      shapes = c.shapes_have_as_many_variables.ensures.instance;
      class_shapes = c.shapes_have_as_many_variables.ensures.class;
      methods = c.method_code_suits.ensures;
      doits = c.doit_code_suits.ensures.suits;
      no_arguments = c.doit_code_suits.ensures.arguments;
      no_primitive = c.doit_code_suits.ensures.primitive;
    } in
    setting_of c.args.system.now c.classes-classes.ensures.of_list known laws c.methods-methods.ensures.codes text code is

pub returns-clause-given : goal.returns-clause-given
returns-clause-given c = record { classes = subst IsKnown c.classes-classes.ensures.table c.count-count.ensures.known; codes = c.methods-methods.ensures.codes }
