use Rattle.std.proofs.Common.{◌≡◌, ◌≤◌, length, Err, ap, subst, ◌∙◌, arith}
use Rattle.std.proofs.lemmas.Result.{err_from_is_err_and}
use Rattle.s80_disk.specs.Image.{Image}
use Rattle.s80_image.specs.Methods.{methods_of}
use Rattle.s80_log.specs.Log.{held_in, log_file}
use Rattle.s80_keeper.specs.ImageReading.{AddsSources, HasAdded}
use Rattle.s80_keeper.proofs.Sourcing.{first_fails, then_added}
use Rattle.s80_keeper.proofs.begin.add_sources_of_class.Goals as goal

pub returns-in_err-add_sources-clause-answer : goal.returns-in_err-add_sources-clause-answer
returns-in_err-add_sources-clause-answer g c = λ told long.
    let held = held_in (g.D.Disk.reads c.args.disk.now) c.args.log.now in
    let class = c.args.class.now in
    let before = c.args.sources.now.items in
    let now = c.add_sources.new.sources.items in
    let fault = c.in_err-add_sources.field-0.0 in
    let is = subst (λ ms. AddsSources {T = Unit {0}} held (methods_of ms) c.args.size before now (Err fault)) c.deref.ensures.value (c.in_err-add_sources.ensures.answer told long) in
    let p = err_from_is_err_and c.from_residual.result c.from_residual.ensures.1 in
    rw (p.1, p.2) (first_fails held c.args.size before now (methods_of class.instance_methods.items) (methods_of class.class_methods.items) fault is)

pub returns-clause-answer : goal.returns-clause-answer
returns-clause-answer g c = λ told long.
    let log = c.args.log.now in
    let reads = g.D.Disk.reads c.args.disk.now in
    let held = held_in reads log in
    let class = c.args.class.now in
    let before = c.args.sources.now.items in
    let mid = c.add_sources.new.sources.items in
    let now = c.add_sources-2.new.sources.items in
    let first = c.in_ok-add_sources.ensures in
    let one = subst (λ ms. HasAdded held (methods_of ms) before mid) c.deref.ensures.value (first.answer told long) in
    let same : g.D.Disk.reads c.add_sources.new.disk ≡ reads = λ i file. first.untouched.same file i in
    let long_now : log.end ≤ length (g.D.Disk.reads c.add_sources.new.disk (log_file log.number)) = omega (arith, ap length (first.untouched.same (log_file log.number)), long) in
    let P : Image → Type 0 = λ r. AddsSources (held_in r log) (methods_of c.deref-2.result.now) c.args.size mid now c.add_sources-2.result in
    let two = subst P same (c.add_sources-2.ensures.answer (first.untouched.telling ∙ told) long_now) in
    let also = subst (λ ms. AddsSources held (methods_of ms) c.args.size mid now c.add_sources-2.result) c.deref-2.ensures.value two in
    then_added held c.args.size before now (methods_of class.instance_methods.items) (methods_of class.class_methods.items) mid c.add_sources-2.result one also
