use Rattle.s80_apply.specs.List.{state_from}
use Rattle.s80_merge.proofs.set.touched_in.Goals as goal

pub returns : goal.returns
returns c = λ state is. c.note_all.ensures (state_from state c.args.base.now) (c.in_ok-work_all.ensures state is)
