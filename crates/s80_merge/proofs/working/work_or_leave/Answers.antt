use Rattle.std.proofs.Common.{Err, subst}
use Rattle.s80_merge.specs.Work.{IsWorked}
use Rattle.s80_merge.proofs.lemmas.Working.{left_so}
use Rattle.s80_merge.proofs.working.work_or_leave.Goals as goal

pub returns-in-Err-Refusal : goal.returns-in-Err-Refusal
returns-in-Err-Refusal c = λ state is.
    let left = subst (λ why. IsWorked state c.args.change.now c.work.new.system (Err why)) c.in-Err-Refusal.field-0-is (c.in-Err-Refusal.ensures state is) in
    left_so state c.args.change.now c.work.new.system c.in-Err-Refusal.field-0-0 left.0 left.1
