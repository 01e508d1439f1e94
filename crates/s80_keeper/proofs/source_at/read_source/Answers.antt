use Rattle.std.proofs.Common.{refl}
use Rattle.s80_log.specs.Log.{held_in}
use Rattle.s80_keeper.proofs.StandingSource.{read_in}
use Rattle.s80_keeper.proofs.source_at.read_source.Goals as goal

pub returns-clause-stands : goal.returns-clause-stands
returns-clause-stands g c = λ told row stands is.
    read_in (held_in (g.D.Disk.reads c.args.disk.now) c.args.log.now) row c.args.entry.now c.read_source_at.result c.args.entry.now.from_kernel refl stands is (c.read_source_at.ensures.answer told)
