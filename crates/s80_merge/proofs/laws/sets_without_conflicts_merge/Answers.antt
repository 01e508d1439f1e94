use Rattle.s80_apply.specs.State.{kernel_state}
use Rattle.s80_merge.proofs.lemmas.Merged.{accepted_first, accepted_last, merge_either_way}
use Rattle.s80_merge.proofs.laws.sets_without_conflicts_merge.Goals as goal

pub returns : goal.returns
returns c = λ base ours theirs one other free.
    merge_either_way base ours theirs (accepted_first kernel_state base ours one) (accepted_last kernel_state base ours one) (accepted_last kernel_state base theirs other) free
