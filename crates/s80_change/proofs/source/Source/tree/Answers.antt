use Rattle.std.proofs.Common.{sym}
use Rattle.s80_change.proofs.Checking.{tree_of, refusal_is}
use Rattle.s80_change.proofs.source.Source.tree.Goals as goal

pub returns-in-Ok-clause-tree : goal.returns-in-Ok-clause-tree
returns-in-Ok-clause-tree c = tree_of c.args.self.now c.self.inside.text c.self.inside.parsed c.in-Ok.tree (sym c.self.view_is) c.self.invariant.0 c.in-Ok.is

pub returns-in-Err-clause-refusal : goal.returns-in-Err-clause-refusal
returns-in-Err-clause-refusal c = refusal_is c.args.self.now c.self.inside.text c.self.inside.parsed c.in-Err.refusal (sym c.self.view_is) c.in-Err.is
