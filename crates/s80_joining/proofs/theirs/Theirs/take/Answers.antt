use Rattle.s80_joining.proofs.Taking.{takes_one}
use Rattle.s80_joining.proofs.theirs.Theirs.take.Goals as goal

pub returns : goal.returns
returns c = λ state given taken is. takes_one state given c.args.item c.args.self.now c.work_item.new.self c.work_item.result taken (λ worked at. c.work_item.ensures worked at is)
