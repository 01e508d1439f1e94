use Rattle.std.proofs.Common.{subst}
use Rattle.s80_tree.specs.Tree.{doit_of}
use Rattle.s80_change.specs.HeadForm.{IsRecognised}
use Rattle.s80_change.proofs.Heads.{no_head_of}
use Rattle.s80_change.proofs.head.head_of.Goals as goal

pub returns-in-Ok-None-clause-fault : goal.returns-in-Ok-None-clause-fault
returns-in-Ok-None-clause-fault c = no_head_of c.args.text.now (doit_of c.in-Ok.tree) c.in-Ok.ensures.tree (subst (IsRecognised (doit_of c.in-Ok.tree)) c.in-Ok-None.field-0-is c.in-Ok-None.ensures)
