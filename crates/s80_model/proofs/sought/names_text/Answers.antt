use Rattle.s80_model.proofs.Telling.{next_line}
use Rattle.s80_model.proofs.sought.names_text.Goals as goal

pub loop-i-preserved : goal.loop-i-preserved
loop-i-preserved c = next_line c.args.names.now c.loop-i.i c.at.result.now c.loop-i.text c.bytes.result.now c.append.new.self c.append-in-loop-i.new.self
    c.loop-i.invariant c.at.ensures c.bytes.ensures c.in_ok-append.ensures.ok c.in_ok-append-2.ensures.ok
