use Rattle.std.proofs.Common.{◌++◌, refl}
use Rattle.s80_keeper.proofs.Keeping.{pending_is}
use Rattle.s80_keeper.proofs.laws.pending_blocks_are_counted.Goals as goal

pub returns : goal.returns
returns g c = λ kept pending keeps. pending_is (g.D.Disk.tells c.args.disk.now) (g.D.Disk.reads c.args.disk.now) (g.D.Disk.may_leave c.args.disk.now) c.args.keeper.now kept (kept ++ pending) keeps pending refl
