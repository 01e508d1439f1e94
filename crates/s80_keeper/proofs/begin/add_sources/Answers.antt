use Rattle.std.proofs.Common.{◌≡◌, ◌≤◌, length, Ok, Err, ap, subst, ◌∙◌, arith, rules}
use Rattle.std.proofs.lemmas.Result.{err_from_is_err_and}
use Rattle.s80_disk.specs.Image.{Image}
use Rattle.s80_image.specs.Methods.{method_of}
use Rattle.s80_log.specs.Log.{held_in, log_file}
use Rattle.s80_keeper.specs.ImageReading.{IsSourceAt}
use Rattle.s80_keeper.proofs.Sourcing.{added_more, source_fails}
use Rattle.s80_keeper.proofs.begin.add_sources.Goals as goal

pub returns-in_err-source-clause-answer : goal.returns-in_err-source-clause-answer
returns-in_err-source-clause-answer g c = λ told long.
    let log = c.args.log.now in
    let reads = g.D.Disk.reads c.args.disk.now in
    let so_far = c.loop-method.invariant in
    let fault = c.in_err-source.field-0.0 in
    let same : g.D.Disk.reads c.loop-method.disk ≡ reads = λ i file. so_far.untouched.same file i in
    let long_now : log.end ≤ length (g.D.Disk.reads c.loop-method.disk (log_file log.number)) = omega (arith, ap length (so_far.untouched.same (log_file log.number)), long) in
    let P : Image → Type 0 = λ r. IsSourceAt (held_in r log) (method_of c.method-item.result) c.args.size (Err fault) in
    let is = subst P same (c.in_err-source.ensures.answer (so_far.untouched.telling ∙ told) long_now) in
    let p = err_from_is_err_and c.from_residual.result c.from_residual.ensures.1 in
    rw (p.1, p.2) (source_fails (held_in reads log) c.args.size c.args.sources.now.items c.loop-method.sources.items c.args.methods.now c.loop-method.method-index c.method-item.result c.loop-method-test.true c.method-item.is fault is)

pub loop-method-preserved : goal.loop-method-preserved
loop-method-preserved g c =
    let log = c.args.log.now in
    let reads = g.D.Disk.reads c.args.disk.now in
    let so_far = c.loop-method.invariant in
    let same : g.D.Disk.reads c.loop-method.disk ≡ reads = λ i file. so_far.untouched.same file i in
    let P : Image → Type 0 = λ r. IsSourceAt (held_in r log) (method_of c.method-item.result) c.args.size (Ok c.in_ok-source.source) in
    record {
      added = λ told long.
          let long_now : log.end ≤ length (g.D.Disk.reads c.loop-method.disk (log_file log.number)) = omega (arith, ap length (so_far.untouched.same (log_file log.number)), long) in
          let stands = subst P same (c.in_ok-source.ensures.answer (so_far.untouched.telling ∙ told) long_now) in
          added_more (held_in reads log) c.args.methods.now c.loop-method.method-index c.method-item.result c.args.sources.now.items c.loop-method.sources.items c.push_source.new.sources.items c.in_ok-source.source c.loop-method-test.true c.method-item.is (so_far.added told long) stands c.in_ok-push_source.ensures;
      untouched = search rules;
      faults_stay = c.in_ok-source.ensures.faults_stay ∙ so_far.faults_stay;
    }
