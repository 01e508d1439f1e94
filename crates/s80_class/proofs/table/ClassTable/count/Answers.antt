use Rattle.std.proofs.Common.{subst}
use Rattle.s80_class.specs.Known.{IsKnown}
use Rattle.s80_class.proofs.table.ClassTable.count.Goals as goal

pub returns-clause-known : goal.returns-clause-known
returns-clause-known c = subst IsKnown c.self.view_is c.self.invariant.known
