use Rattle.s80_prims.proofs.KernelNumbers.{kind_apart, kind_of_its_number}
use Rattle.s80_prims.proofs.classes.is_kind_of_number.Goals as goal

pub returns-then-c-of : goal.returns-then-c-of
returns-then-c-of c = kind_of_its_number c.args.classes.now c.args.c c.args.of c.requires.known c.requires.other c.if-c-of.true

pub returns : goal.returns
returns c =
    kind_apart c.args.classes.now c.args.c c.args.of c.is_descendant.result c.requires.known c.requires.class c.requires.other c.if-c-of.false c.is_descendant.ensures
