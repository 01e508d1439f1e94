use Rattle.std.proofs.Common.{◌≡◌, ◌≤◌, length, ap, subst, ◌∙◌, arith}
use Rattle.std.proofs.lemmas.Result.{err_from_is_err_and}
use Rattle.s80_disk.specs.Image.{Image}
use Rattle.s80_image.specs.Classes.{classes_of}
use Rattle.s80_log.specs.Log.{held_in, log_file}
use Rattle.s80_keeper.specs.ImageReading.{HoldSources, methods_in}
use Rattle.s80_keeper.proofs.ImageBegun.{unrestored}
use Rattle.s80_keeper.proofs.ReadTwice.{read_twice}
use Rattle.s80_keeper.proofs.begin.begin_with_image.Goals as goal

pub returns-in_err-system-clause-answer : goal.returns-in_err-system-clause-answer
returns-in_err-system-clause-answer g c = λ told long.
    let log = c.args.log.now in
    let reads = g.D.Disk.reads c.args.disk.now in
    let image = c.in_ok-image.image in
    let size = c.in_ok-image.size in
    let sources = c.in_ok-sources.sources.items in
    let fault = c.in_err-system.field-0.0 in
    let found = c.in_ok-image.ensures in
    let same : g.D.Disk.reads c.find_image.new.disk ≡ reads = λ i file. found.untouched.same file i in
    let long_now : log.end ≤ length (g.D.Disk.reads c.find_image.new.disk (log_file log.number)) = omega (arith, ap length (found.untouched.same (log_file log.number)), long) in
    let P : Image → Type 0 = λ r. HoldSources (held_in r log) (methods_in (classes_of image.classes.items)) sources in
    let held = subst P same (c.in_ok-sources.ensures.answer (found.untouched.telling ∙ told) long_now) in
    let p = err_from_is_err_and c.from_residual-in_err-system.result c.from_residual-in_err-system.ensures.1 in
    rw (p.1, p.2) (unrestored reads c.args.mark.now (held_in reads log) image size (found.answer told) sources fault held c.in_err-system.ensures)

pub returns-clause-untouched : goal.returns-clause-untouched
returns-clause-untouched g c =
    let D = g.D.Disk in
    read_twice D.tells D.reads D.may_leave D.moment D.left_since D.beside D.disk_faults c.args.disk.now c.find_image.new.disk c.sources.new.disk c.find_image.ensures.untouched c.sources.ensures.untouched
