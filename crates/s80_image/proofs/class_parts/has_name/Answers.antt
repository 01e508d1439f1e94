use Rattle.std.proofs.Common.{rules}
use Rattle.s80_image.proofs.Names.{named_here, named_later}
use Rattle.s80_image.proofs.class_parts.has_name.Goals as goal

pub returns-then-eq : goal.returns-then-eq
returns-then-eq c = named_here c.args.name.now c.args.names.now c.loop-i.i c.at.result.now (search rules) c.at.ensures (search rules) c.loop-i.invariant

pub loop-i-preserved : goal.loop-i-preserved
loop-i-preserved c = named_later c.args.name.now c.args.names.now c.loop-i.i c.at.result.now (search rules) c.at.ensures (search rules) c.loop-i.invariant
