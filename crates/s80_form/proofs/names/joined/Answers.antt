use Rattle.std.proofs.Common.{arith}
use Rattle.s80_form.proofs.Spelled.{joined_first, joined_next}
use Rattle.s80_form.proofs.names.joined.Goals as goal
use Rattle.s80_form.proofs.names.joined.Goals.{then-i-gt0+in_ok-append, else-i-gt0}

pub loop-i-preserved : goal.loop-i-preserved
loop-i-preserved c = elim c.if-i-gt0.branch [
  | then-i-gt0+in_ok-append w ↦
      let e = joined_next c.args.names.now c.loop-i.i c.at.result.now (omega arith) c.at.ensures in
      cc (c.in_ok-append-2.ensures.ok, w.in_ok-append.ensures.ok)
  | else-i-gt0 w ↦
      let e = joined_first c.args.names.now c.loop-i.i c.at.result.now (omega arith) c.at.ensures in
      cc c.in_ok-append-2.ensures.ok
]
