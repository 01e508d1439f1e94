use Rattle.std.proofs.Common.{◌∙◌, ap, not}
use Rattle.s80_joining.proofs.Taking.{opened}
use Rattle.s80_joining.proofs.theirs.Theirs.open.Goals as goal

pub returns : goal.returns
returns c = λ worked at. opened worked c.args.head c.args.self.now c.find.result c.find.ensures (c.is_none.ensures ∙ ap not c.if-is_none.false) at
