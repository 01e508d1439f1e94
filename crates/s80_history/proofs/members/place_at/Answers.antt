use Rattle.std.proofs.Common.{◌∙◌, ap, arith, slice_get, sym}
use Rattle.s80_history.proofs.Counting.{none_left, places_in}
use Rattle.s80_history.proofs.members.place_at.Goals as goal

pub returns : goal.returns
returns c = sym (ap (λ xs. slice_get (places_in xs) c.loop-k.left) (none_left c.args.members.now c.loop-k.k (omega arith))) ∙ c.loop-k.invariant
