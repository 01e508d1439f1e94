use Rattle.std.proofs.Common.{◌∙◌, ap, arith, slice_get, sym}
use Rattle.s80_history.specs.Members.{filled}
use Rattle.s80_history.proofs.Counting.{none_left}
use Rattle.s80_history.proofs.members.member_at.Goals as goal

pub returns : goal.returns
returns c = sym (ap (λ xs. slice_get (filled xs) c.loop-k.left) (none_left c.args.members.now c.loop-k.k (omega arith))) ∙ c.loop-k.invariant
