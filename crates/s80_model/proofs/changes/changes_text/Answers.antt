use Rattle.s80_model.proofs.Listed.{next_line}
use Rattle.s80_model.proofs.changes.changes_text.Goals as goal

pub loop-i-preserved : goal.loop-i-preserved
loop-i-preserved c = next_line c.args.set.now c.loop-i.i c.at.result.now c.loop-i.text c.add_change_line.new.text c.append.new.self c.loop-i.invariant c.at.ensures
    c.in_ok-add_change_line.ensures c.in_ok-append.ensures.ok
