use Rattle.s80_model.proofs.Seeking.{next_place}
use Rattle.s80_model.proofs.sought.places_text.Goals as goal

pub loop-i-preserved : goal.loop-i-preserved
loop-i-preserved c = next_place c.args.places.now c.loop-i.i c.at-at.result.now c.loop-i.text c.bytes.result.now c.add_method_line.new.text c.append.new.self c.loop-i.invariant c.at-at.ensures c.bytes.ensures
    c.in_ok-add_method_line.ensures c.in_ok-append.ensures.ok
