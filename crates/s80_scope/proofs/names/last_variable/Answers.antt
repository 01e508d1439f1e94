use Rattle.std.proofs.Common.{◌<◌, length, ap, sym, ◌∙◌, arith}
use Rattle.std.specs.Str.{bytes_eq}
use Rattle.std.proofs.lemmas.Option.{get_or_from_slice_get}
use Rattle.s80_scope.proofs.lemmas.Places.{place_found, place_kept}
use Rattle.s80_scope.proofs.names.last_variable.Goals.{then-eq, else-eq}
use Rattle.s80_scope.proofs.names.last_variable.Goals as goal

pub loop-i-preserved : goal.loop-i-preserved
loop-i-preserved c =
    let within : c.loop-i.i < length c.args.variables.now = omega arith in
    let is = sym (get_or_from_slice_get c.args.variables.now c.loop-i.i c.at.result.now c.at.result.now c.at.ensures) in
    let test = c.eq.ensures ∙ ap (bytes_eq c.args.word.now) c.bytes.ensures in
    elim c.if-eq.branch [
      | then-eq w ↦ place_found (bytes_eq c.args.word.now) c.args.variables.now c.loop-i.i c.at.result.now c.if-eq.last within is (sym test ∙ w.if-eq.true) w.last-is
      | else-eq w ↦ place_kept (bytes_eq c.args.word.now) c.args.variables.now c.loop-i.i c.at.result.now c.if-eq.last within is (sym test ∙ w.if-eq.false) (w.last-is ∙ c.loop-i.invariant)
    ]
