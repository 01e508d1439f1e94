use Rattle.s80_joining.proofs.Accepted.{theirs_accepted}
use Rattle.s80_joining.proofs.laws.theirs_are_accepted.Goals as goal

pub returns : goal.returns
returns c = theirs_accepted
