use Rattle.s80_apply.specs.State.{kernel_state}
use Rattle.s80_merge.proofs.set.touched_by.Goals as goal

pub returns : goal.returns
returns c = c.touched_in.ensures kernel_state c.in_ok-system.ensures.state
