use Rattle.s80_method.proofs.Numbered.{name_added}
use Rattle.s80_method.proofs.shape.add_names.Goals as goal

pub loop-i-preserved : goal.loop-i-preserved
loop-i-preserved c = name_added c.args.names.now c.loop-i.names c.push.new.self c.args.more.now c.loop-i.i c.at.result.now c.in_ok-copy.field-0 c.in_ok-push.ensures.ok c.loop-i.invariant c.in_ok-copy.ensures c.at.ensures
