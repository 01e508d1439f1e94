use Rattle.s80_form.proofs.Reading.{class_found, instance_found}
use Rattle.s80_form.proofs.read.side.Goals as goal

pub returns-then-starts_with : goal.returns-then-starts_with
returns-then-starts_with c = class_found c.args.bytes.now c.after.result.now c.starts_with.result c.starts_with.ensures.value c.if-starts_with.true c.after.ensures

pub returns-else-starts_with : goal.returns-else-starts_with
returns-else-starts_with c = instance_found c.args.bytes.now c.starts_with.result c.starts_with.ensures.value c.if-starts_with.false
