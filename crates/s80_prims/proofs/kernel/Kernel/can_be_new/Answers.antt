use Rattle.std.proofs.Common.{◌∙◌, ap, not}
use Rattle.s80_prims.proofs.KernelNumbers.{otherwise_classes, otherwise_kinds}
use Rattle.s80_prims.proofs.kernel.Kernel.can_be_new.Goals as goal

pub is_kind_of_any-requires-clause-others : goal.is_kind_of_any-requires-clause-others
is_kind_of_any-requires-clause-others c = otherwise_classes c.args.classes.now c.args.self.now c.requires.numbers

pub returns : goal.returns
returns c = ap not (c.is_kind_of_any.ensures ∙ otherwise_kinds c.args.classes.now c.args.self.now c.args.c c.requires.numbers)
