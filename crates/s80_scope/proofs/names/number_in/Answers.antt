use Rattle.std.proofs.Common.{◌<◌, length, ap, sym, ◌∙◌, arith}
use Rattle.std.specs.Str.{bytes_eq}
use Rattle.s80_scope.proofs.Whole.{number_found, number_kept}
use Rattle.s80_scope.proofs.names.number_in.Goals.{then-eq, else-eq}
use Rattle.s80_scope.proofs.names.number_in.Goals as goal

pub loop-i-preserved : goal.loop-i-preserved
loop-i-preserved c =
    let within : c.loop-i.i < length c.args.names.now = omega arith in
    let test = c.eq.ensures ∙ ap (bytes_eq c.args.word.now) c.bytes.ensures in
    elim c.if-eq.branch [
      | then-eq w ↦ number_found c.args.names.now c.args.first c.args.word.now c.loop-i.i c.index-names-i.result c.if-eq.number within c.index-names-i.is (sym test ∙ w.if-eq.true) w.number-is
      | else-eq w ↦ number_kept c.args.names.now c.args.first c.args.word.now c.loop-i.i c.index-names-i.result c.if-eq.number within c.index-names-i.is (sym test ∙ w.if-eq.false) (w.number-is ∙ c.loop-i.invariant)
    ]
