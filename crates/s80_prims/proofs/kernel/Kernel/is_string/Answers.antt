use Rattle.std.proofs.Common.{◌∙◌, ap, codes}
use Rattle.s80_prims.specs.Classes.{is_kind_of}
use Rattle.s80_prims.proofs.KernelNumbers.{is_class, name_is}
use Rattle.s80_prims.proofs.kernel.Kernel.is_string.Goals as goal

pub is_kind_of_number-requires-clause-other : goal.is_kind_of_number-requires-clause-other
is_kind_of_number-requires-clause-other c = is_class c.args.classes.now (codes "String") c.args.self.now.string c.requires.numbers.string

pub returns : goal.returns
returns c = c.is_kind_of_number.ensures ∙ ap (λ word. is_kind_of c.args.classes.now c.args.c word) (name_is c.args.classes.now (codes "String") c.args.self.now.string c.requires.numbers.string)
