use Rattle.std.proofs.lemmas.Result.{IfOk-weaker}
use Rattle.s80_prims.proofs.applied.with_one.Goals as goal

pub returns-in-129-clause-ok : goal.returns-in-129-clause-ok
returns-in-129-clause-ok c = rw c.in-129.is (IfOk-weaker c.error.result _ _ (λ applied is. is c.args.transcript.now) c.error.ensures)
