use Rattle.std.proofs.Common.{◌∙◌, sym}
use Rattle.s80_apply.specs.State.{kernel_state}
use Rattle.s80_snapshot.proofs.MadeInOrder.{no_keys}
use Rattle.s80_snapshot.proofs.class_changes.selectors_of.Goals as goal

pub returns-in-None : goal.returns-in-None
returns-in-None c = c.empty.ensures ∙ sym (no_keys c.args.kernel.now kernel_state c.args.class_name.now c.args.side c.requires c.in-None.ensures)
