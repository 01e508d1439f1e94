use Rattle.std.proofs.Common.{◌∙◌, arith}
use Rattle.s80_mark.proofs.Bytes.{slots_read}
use Rattle.s80_disk.specs.declared.disk.FileId.TheVariants.{Mark}
use Rattle.s80_mark.proofs.slots.Slots.read.Goals as goal

pub returns-clause-value : goal.returns-clause-value
returns-clause-value g c = λ told.
    let read = c.in_ok-count.ensures in
    c.of.ensures ∙ slots_read c.read_at.new.buf (g.D.Disk.reads c.args.disk.now Mark) c.in_ok-count.count (omega (arith, c.read_at.auto.buf)) (omega (arith, read.count told)) (read.bytes told)
