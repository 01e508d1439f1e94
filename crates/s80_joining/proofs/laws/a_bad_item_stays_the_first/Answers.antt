use Rattle.std.proofs.Common.{Ok}
use Rattle.s80_joining.specs.Theirs.{begun_from}
use Rattle.s80_joining.proofs.Taking.{stays_bad}
use Rattle.s80_joining.proofs.laws.a_bad_item_stays_the_first.Goals as goal

pub returns : goal.returns
returns c = λ state items more refusal is. stays_bad (Ok (begun_from state)) items more refusal is
