use Rattle.std.proofs.Common.{◌≤◌, arith, length, subst, sym, take}
use Rattle.std.proofs.lemmas.List.{take_all}
use Rattle.s80_apply.specs.List.{state_from}
use Rattle.s80_apply.specs.State.{kernel_state}
use Rattle.s80_apply.specs.System.{IsSystemOf}
use Rattle.s80_snapshot.proofs.WorkingChanges.{accepted_at, from_next, state_behind}
use Rattle.s80_snapshot.proofs.working.work_all.Goals as goal

pub work-requires : goal.work-requires
work-requires c =
    let at = c.loop-i in
    (state_from kernel_state (take at.i c.args.changes.now), at.invariant.state, accepted_at kernel_state c.args.changes.now at.i c.at.result.now c.requires.accepted c.at.ensures)

pub loop-i-preserved : goal.loop-i-preserved
loop-i-preserved c =
    let at = c.loop-i in
    let works = c.in_ok-work.ensures in
    let placed = works.placed at.invariant.places.0 at.invariant.places.1 in
    record {
      state = subst (IsSystemOf c.work.new.system) (sym (from_next kernel_state c.args.changes.now at.i c.at.result.now c.at.ensures)) (state_behind c.work.new.system c.at.result.now (state_from kernel_state (take at.i c.args.changes.now)) (works.state (state_from kernel_state (take at.i c.args.changes.now)) at.invariant.state));
      places = (placed.0, placed.2);
    }

pub returns-clause-state : goal.returns-clause-state
returns-clause-state c =
    let past : length c.args.changes.now ≤ c.loop-i.i = omega (arith, c.loop-i-test.false, c.count-i-end.ensures) in
    subst (λ done. IsSystemOf c.loop-i.system (state_from kernel_state done)) (take_all c.loop-i.i c.args.changes.now past) c.loop-i.invariant.state
