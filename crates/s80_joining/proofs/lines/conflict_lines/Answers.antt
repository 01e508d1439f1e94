use Rattle.std.proofs.Common.{◌≤◌, ◌∙◌, ap, arith, length}
use Rattle.std.proofs.lemmas.List.{take_all}
use Rattle.s80_joining.specs.Answer.{conflict_lines}
use Rattle.s80_joining.proofs.KeyLines.{one_line_more}
use Rattle.s80_joining.proofs.lines.conflict_lines.Goals as goal

pub loop-i-preserved : goal.loop-i-preserved
loop-i-preserved c = one_line_more c.args.keys.now c.loop-i.i c.at.result.now c.loop-i.text c.put_conflict.new.text c.at.ensures c.loop-i.invariant c.in_ok-put_conflict.ensures

pub returns : goal.returns
returns c =
    let past : length c.args.keys.now ≤ c.loop-i.i = omega (arith, c.loop-i-test.false, c.count-i-end.ensures) in
    c.loop-i.invariant ∙ ap conflict_lines (take_all c.loop-i.i c.args.keys.now past)
