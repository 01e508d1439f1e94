use Rattle.std.proofs.Common.{refl}
use Rattle.s80_disk.specs.Memory.{images_of, images_since, moment_of, beside_of}
use Rattle.s80_disk.specs.Tell.{lifted}
use Rattle.s80_disk.proofs.memory_outside.calls.MemOutsideDisk.write_at.Goals as goal

pub returns-clause-time : goal.returns-clause-time
returns-clause-time g c = lifted (λ o. o.disk) moment_of images_since images_of beside_of _ c.args.self.now _ refl c.write_at.ensures.time
