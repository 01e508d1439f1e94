use Rattle.s80_change.proofs.MethodOf.{no_head}
use Rattle.s80_change.proofs.block.read_method.Goals as goal

pub returns-in_default : goal.returns-in_default
returns-in_default c = no_head c.args.head.now c.args.source (rw c.in_default.is at c.in_ok-head.ensures)
