use Rattle.s80_change.proofs.Checking.{check_same}
use Rattle.s80_change.proofs.check.one_check.Goals as goal

pub returns : goal.returns
returns c = check_same
