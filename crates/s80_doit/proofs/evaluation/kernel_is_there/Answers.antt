use Rattle.s80_doit.proofs.Setting.{kernel_there}
use Rattle.s80_doit.proofs.evaluation.kernel_is_there.Goals as goal

pub returns : goal.returns
returns c = kernel_there c.args.system.now.table c.classes-classes.ensures.of_list c.kernel_classes_last.ensures
