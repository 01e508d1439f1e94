use Rattle.s80_change.proofs.Heads.{one_head_of}
use Rattle.s80_change.proofs.head.one_head.Goals as goal

pub returns : goal.returns
returns c = one_head_of
