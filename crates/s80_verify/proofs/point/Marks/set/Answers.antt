use Rattle.std.proofs.Common.{arith}
use Rattle.s80_verify.proofs.FoundLemmas.{set_home_at, set_block_at}
use Rattle.s80_verify.proofs.point.Marks.set.Goals as goal

pub returns-in-OfHome : goal.returns-in-OfHome
returns-in-OfHome c = set_home_at c.args.self.now c.args.point c.in-OfHome.is (omega arith) c.requires.unset

pub returns-in-OfBlock : goal.returns-in-OfBlock
returns-in-OfBlock c = set_block_at c.args.self.now c.args.point c.in-OfBlock.is (omega arith) c.requires.unset
