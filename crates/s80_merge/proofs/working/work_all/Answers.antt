use Rattle.std.proofs.Common.{◌≤◌, arith, length, subst, sym, take}
use Rattle.std.proofs.lemmas.List.{take_all}
use Rattle.s80_apply.specs.List.{state_from}
use Rattle.s80_apply.specs.System.{IsSystemOf}
use Rattle.s80_merge.proofs.lemmas.Working.{from_next}
use Rattle.s80_merge.proofs.working.work_all.Goals as goal

pub loop-i-preserved : goal.loop-i-preserved
loop-i-preserved c = λ state is.
    let at = c.loop-i in
    let done = c.in_ok-work_or_leave.ensures (state_from state (take at.i c.args.changes.now)) (at.invariant state is) in
    subst (IsSystemOf c.work_or_leave.new.system) (sym (from_next state c.args.changes.now at.i c.at.result.now c.at.ensures)) done

pub returns : goal.returns
returns c = λ state is.
    let past : length c.args.changes.now ≤ c.loop-i.i = omega (arith, c.loop-i-test.false, c.count-i-end.ensures) in
    subst (λ done. IsSystemOf c.loop-i.system (state_from state done)) (take_all c.loop-i.i c.args.changes.now past) (c.loop-i.invariant state is)
