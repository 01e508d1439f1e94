use Rattle.std.proofs.Common.{◌≤◌, ap, arith, length, take}
use Rattle.std.proofs.lemmas.List.{take_all}
use Rattle.std.proofs.lemmas.Result.{err_from_is_err_and}
use Rattle.s80_class.specs.Table.{Table}
use Rattle.s80_apply.specs.List.{state_from}
use Rattle.s80_merge.proofs.lemmas.Working.{all_noted, broken_off, none_yet, one_more}
use Rattle.s80_merge.proofs.set.note_all.Goals as goal

pub loop-i-init : goal.loop-i-init
loop-i-init c = λ state is. none_yet state c.args.system.now c.none-touched.result is c.none-touched.ensures.writes c.none-touched.ensures.uses

pub loop-i-preserved : goal.loop-i-preserved
loop-i-preserved c = λ state is.
    let at = c.loop-i in
    let so = at.invariant state is in
    one_more state c.args.changes.now at.i c.at-change.result.now at.system c.work_at.new.system at.touched c.note.new.self c.classes.result.now.classes c.at-change.ensures
    (ap (λ (table : Table). table.classes) c.classes.ensures.table)
    so c.in_ok-note.ensures (c.in_ok-work_at.ensures (state_from state (take at.i c.args.changes.now)) so.made)

pub returns-in_err-work_at : goal.returns-in_err-work_at
returns-in_err-work_at c = λ state is.
    let at = c.loop-i in
    let so = at.invariant state is in
    let p = err_from_is_err_and c.from_residual-in_err-work_at.result c.from_residual-in_err-work_at.ensures.1 in
    rw (p.1, p.2)
    (broken_off state c.args.changes.now at.i c.at-change.result.now c.work_at.new.system c.in_err-work_at.field-0.0 c.at-change.ensures so.accepted
    (c.in_err-work_at.ensures (state_from state (take at.i c.args.changes.now)) so.made))

pub returns : goal.returns
returns c = λ state is.
    let past : length c.args.changes.now ≤ c.loop-i.i = omega (arith, c.loop-i-test.false, c.count-i-end.ensures) in
    all_noted state c.args.changes.now (take c.loop-i.i c.args.changes.now) c.loop-i.system c.loop-i.touched (take_all c.loop-i.i c.args.changes.now past) (c.loop-i.invariant state is)
