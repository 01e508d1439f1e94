use Rattle.s80_method.proofs.Numbered.{binding_added}
use Rattle.s80_method.proofs.shape.add_bindings.Goals as goal

pub loop-i-preserved : goal.loop-i-preserved
loop-i-preserved c =
    binding_added c.args.bindings.now c.loop-i.bindings c.push.new.self c.args.class_name.now c.in_ok-copy.field-0 c.args.class_vars.now c.loop-i.i c.at.result.now c.in_ok-copy-2.field-0
    c.in_ok-push.ensures.ok c.loop-i.invariant c.in_ok-copy.ensures c.in_ok-copy-2.ensures c.at.ensures
