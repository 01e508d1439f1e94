-- What a plan tells of two sets.
use Rattle.std.proofs.Common.{◌≡◌, ◌++◌, ℕ, zero, suc, subst, List, [], ◌∷◌, Some, Err, take}
use Rattle.std.specs.Prelude.{slice_get}
use Rattle.std.specs.List.{Contains}
use Rattle.s80_change.specs.declared.change.Change.{Change}
use Rattle.s80_apply.specs.Accept.{accept}
use Rattle.s80_apply.specs.List.{AreAccepted, IsAccepted, IsBuilt, state_after, state_from, state_of}
use Rattle.s80_apply.specs.State.{State, kernel_state}
use Rattle.s80_merge.specs.declared.key.Key.{Key}
use Rattle.s80_merge.specs.declared.planning.PlanFault.{PlanFault}
use Rattle.s80_merge.specs.declared.planning.PlanFault.TheVariants.{Memory, Theirs}
use Rattle.s80_merge.specs.Merging.{AreKeys, IsConflict, IsPlan, MergeEitherWay}
use Rattle.s80_merge.specs.Work.{IsNoted}
use Rattle.s80_merge.proofs.Members.{in_none}
use Rattle.s80_merge.proofs.lemmas.Merged.{accepted_first, accepted_last, merge_either_way}

pub accepted_at : (state : State) (cs : List Change) (i : ℕ) (c : Change) → AreAccepted state cs → slice_get cs i ≡ Some c → IsAccepted (accept c (state_from state (take i cs)))
accepted_at state [] i c all at = absurd (cc)
accepted_at state (d ∷ ds) zero c all at = let same : d ≡ c = cc in subst (λ e. IsAccepted (accept e state)) same all.0
accepted_at state (d ∷ ds) (suc i) c all at = accepted_at (state_after d state) ds i c all.1 at

-- what is accepted isn't refused
pub not_refused : (base : State) (ours theirs : List Change) (fault : PlanFault) → AreAccepted base ours → IsNoted base ours (Err fault) → IsPlan base ours theirs (Err fault)
not_refused base ours theirs Memory all noted = tt
not_refused base ours theirs (Theirs index refusal) all noted = absurd (subst IsAccepted noted.refused (accepted_at base ours index noted.change all noted.at))

pub ours_accepted : (base ours : List Change) → IsBuilt (base ++ ours) → AreAccepted (state_of base) ours
ours_accepted base ours built = accepted_last kernel_state base ours built

-- without conflicts they merge
pub none_merge : (base ours theirs : List Change) (conflicts : List Key) → IsBuilt (base ++ ours) → AreAccepted (state_of base) theirs → AreKeys (IsConflict (state_of base) ours theirs) conflicts → conflicts ≡ []
    → MergeEitherWay base ours theirs
none_merge base ours theirs conflicts built all are none =
    merge_either_way base ours theirs (accepted_first kernel_state base ours built) (ours_accepted base ours built) all
    (λ key conflict. in_none key (subst (λ keys. Contains keys key) none ((are.1 key).1 conflict)))
