use Rattle.std.proofs.Common.{rules}
use Rattle.s80_prims.proofs.ClassesNumbered.{number_is}
use Rattle.s80_prims.proofs.classes.kernel_number.Goals as goal

pub returns-clause-named : goal.returns-clause-named
returns-clause-named c = search rules

pub returns-clause-only : goal.returns-clause-only
returns-clause-only c = search rules

pub returns-clause-number : goal.returns-clause-number
returns-clause-number c = number_is c.args.classes.now.names c.args.name.now c.unwrap.result (returns-clause-named c) (returns-clause-only c)
