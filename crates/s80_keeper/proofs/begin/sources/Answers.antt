use Rattle.std.proofs.Common.{◌≡◌, ◌≤◌, [], length, Err, Vec, Global, ap, subst, ◌∙◌, arith, rules}
use Rattle.std.proofs.lemmas.Result.{err_from_is_err_and}
use Rattle.s80_base.specs.declared.text.Text.{Text}
use Rattle.s80_disk.specs.Image.{Image}
use Rattle.s80_image.specs.Classes.{class_of, classes_of}
use Rattle.s80_log.specs.Log.{held_in, log_file}
use Rattle.s80_keeper.specs.ImageReading.{AddsSources, AreSources, HasAdded, methods_in, methods_of_class}
use Rattle.s80_keeper.proofs.Sourcing.{added_class, class_fails}
use Rattle.s80_keeper.proofs.begin.sources.Goals as goal

pub returns-in_err-add_sources_of_class-clause-answer : goal.returns-in_err-add_sources_of_class-clause-answer
returns-in_err-add_sources_of_class-clause-answer g c = λ told long.
    let log = c.args.log.now in
    let reads = g.D.Disk.reads c.args.disk.now in
    let so_far = c.loop-class.invariant in
    let cs = c.deref-class-items.result.now in
    let fault = c.in_err-add_sources_of_class.field-0.0 in
    let mid = c.loop-class.sources.items in
    let now = c.add_sources_of_class.new.sources.items in
    let same : g.D.Disk.reads c.loop-class.disk ≡ reads = λ i file. so_far.untouched.same file i in
    let long_now : log.end ≤ length (g.D.Disk.reads c.loop-class.disk (log_file log.number)) = omega (arith, ap length (so_far.untouched.same (log_file log.number)), long) in
    let P : Image → Type 0 = λ r. AddsSources {T = Unit {0}} (held_in r log) (methods_of_class (class_of c.class-item.result)) c.args.size mid now (Err fault) in
    let is = subst P same (c.in_err-add_sources_of_class.ensures.answer (so_far.untouched.telling ∙ told) long_now) in
    let p = err_from_is_err_and c.from_residual.result c.from_residual.ensures.1 in
    let view : Vec Text Global → _ = λ sources. sources.items in
    let failed = class_fails (held_in reads log) c.args.size view cs c.loop-class.class-index c.class-item.result mid now c.loop-class-test.true c.class-item.is fault is in
    rw (p.1, p.2) (subst (λ l. AreSources (held_in reads log) (methods_in (classes_of l)) c.args.size view (Err fault)) c.deref-class-items.ensures.value failed)

pub loop-class-preserved : goal.loop-class-preserved
loop-class-preserved g c =
    let log = c.args.log.now in
    let reads = g.D.Disk.reads c.args.disk.now in
    let so_far = c.loop-class.invariant in
    let mid = c.loop-class.sources.items in
    let now = c.add_sources_of_class.new.sources.items in
    let same : g.D.Disk.reads c.loop-class.disk ≡ reads = λ i file. so_far.untouched.same file i in
    let P : Image → Type 0 = λ r. HasAdded (held_in r log) (methods_of_class (class_of c.class-item.result)) mid now in
    record {
      added = λ told long.
          let long_now : log.end ≤ length (g.D.Disk.reads c.loop-class.disk (log_file log.number)) = omega (arith, ap length (so_far.untouched.same (log_file log.number)), long) in
          let more = subst P same (c.in_ok-add_sources_of_class.ensures.answer (so_far.untouched.telling ∙ told) long_now) in
          added_class (held_in reads log) c.deref-class-items.result.now c.loop-class.class-index c.class-item.result [] mid now c.loop-class-test.true c.class-item.is (so_far.added told long) more;
      untouched = search rules;
      faults_stay = c.in_ok-add_sources_of_class.ensures.faults_stay ∙ so_far.faults_stay;
    }
