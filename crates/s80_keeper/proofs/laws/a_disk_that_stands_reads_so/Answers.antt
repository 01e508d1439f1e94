use Rattle.s80_keeper.proofs.lemmas.Standing.{reads_so}
use Rattle.s80_keeper.proofs.laws.a_disk_that_stands_reads_so.Goals as goal

pub returns : goal.returns
returns g c = reads_so (g.D.Disk.tells c.args.disk.now) (g.D.Disk.reads c.args.disk.now) (g.D.Disk.may_leave c.args.disk.now)
