use Rattle.std.proofs.Common.{Err, refl, subst}
use Rattle.s80_merge.specs.Work.{IsWorked}
use Rattle.s80_merge.proofs.set.work_at.Goals as goal

pub returns-in-Err-Refusal : goal.returns-in-Err-Refusal
returns-in-Err-Refusal c = λ state is. (refl, (subst (λ why. IsWorked state c.args.change.now c.work.new.system (Err why)) c.in-Err-Refusal.field-0-is (c.in-Err-Refusal.ensures state is)).0)
