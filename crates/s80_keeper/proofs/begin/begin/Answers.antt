use Rattle.std.proofs.Common.{◌≡◌, take}
use Rattle.s80_log.specs.Log.{held_in, log_file}
use Rattle.s80_log.specs.Standing.{marked_part}
use Rattle.s80_keeper.proofs.ImageBegun.{ImageLaws, begins_with, kernel_begins}
use Rattle.s80_keeper.proofs.begin.begin.Goals as goal

pub returns-then-mark-clause-answer : goal.returns-then-mark-clause-answer
returns-then-mark-clause-answer g c = λ told long.
    kernel_begins (g.D.Disk.reads c.args.disk.now) c.args.mark.now c.begin_with_kernel.result c.if-mark.true c.begin_with_kernel.ensures.begun c.begin_with_kernel.ensures.wanting

pub returns-clause-answer : goal.returns-clause-answer
returns-clause-answer g c = λ told long.
    let files = g.D.Disk.reads c.args.disk.now in
    let log = c.args.log.now in
    let part : held_in files log ≡ marked_part c.args.mark.now files = λ i. take (c.requires.log.1 i) (files (log_file (c.requires.log.0 i))) in
    let laws : ImageLaws = record { verified = c.images_of_lists_are_lawful.ensures.verified; history = c.a_resumed_history_is_that_of_its_list.ensures } in
    begins_with files c.args.mark.now (held_in files log) laws c.if-mark.false part c.begin_with_image.result (c.begin_with_image.ensures.answer told long)
