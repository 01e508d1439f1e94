-- Two sets of changes that are free of each other: whichever comes first, they are taken and make one state.
use Rattle.std.proofs.Common.{◌≡◌, ◌⊎◌, ◌∙◌, ◌++◌, inl, inr, refl, sym, ap, subst, List, [], ◌∷◌}
use Rattle.std.specs.Prelude.{⊤}
use Rattle.std.specs.List.{Contains}
use Rattle.std.proofs.lemmas.List.Elements.{Contains-append_cases, Contains-append_left, Contains-append_right}
use Rattle.s80_change.specs.declared.change.Change.{Change}
use Rattle.s80_apply.specs.State.{State}
use Rattle.s80_merge.specs.declared.key.Key.{Key}
use Rattle.s80_merge.specs.Touched.{uses, writes}
use Rattle.s80_merge.proofs.Acts.{effect}
use Rattle.s80_merge.proofs.Parts.{AreApart, AreFree}
use Rattle.s80_merge.proofs.Takes.{Later, Takes, behind_one, one_end}

-- ---- a set that is taken

abbrev pub AreTaken : State → List Change → Type 0
AreTaken state [] = ⊤
AreTaken state (c ∷ cs) = Takes c state × AreTaken (effect c state) cs

abbrev pub end_of : State → List Change → State
end_of state [] = state
end_of state (c ∷ cs) = end_of (effect c state) cs

abbrev pub all_writes : State → List Change → List Key
all_writes state [] = []
all_writes state (c ∷ cs) = writes c state.classes ++ all_writes (effect c state) cs

abbrev pub all_uses : State → List Change → List Key
all_uses state [] = []
all_uses state (c ∷ cs) = uses c state.classes ++ all_uses (effect c state) cs

-- ---- keys that are free of others

-- what is written on either side is neither written nor used on the other
pub record AreKeysFree (writes uses other_writes other_uses : List Key) : Type 0 where
  pub both : AreApart writes other_writes
  pub left : AreApart writes other_uses
  pub right : AreApart other_writes uses

module _ {ws us vs ts : List Key} (free : AreKeysFree ws us vs ts) where
  pub turned : AreKeysFree vs ts ws us
  turned = record { both = λ key here there. free.both key there here; left = free.right; right = free.left }

either : (vs ts : List Key) (key : Key) → Contains (vs ++ ts) key → (Contains vs key → ⊥) → (Contains ts key → ⊥) → ⊥
either vs ts key has one other = by_case (Contains-append_cases vs ts key has)
  where
    by_case : Contains vs key ⊎ Contains ts key → ⊥
    by_case (inl here) = one here
    by_case (inr there) = other there

free_changes : (one other : Change) (state : State) → AreKeysFree (writes one state.classes) (uses one state.classes) (writes other state.classes) (uses other state.classes) → AreFree one other state.classes
free_changes one other state free = record {
  left = λ key here there. either (writes other state.classes) (uses other state.classes) key there (free.both key here) (free.left key here);
  right = λ key here there. either (writes one state.classes) (uses one state.classes) key there (λ w. free.both key w here) (free.right key here);
}

-- of a list of changes the first, and the others
module _ (ws us vs ts more_vs more_ts : List Key) (free : AreKeysFree ws us (vs ++ more_vs) (ts ++ more_ts)) where
  first_free : AreKeysFree ws us vs ts
  first_free = record {
    both = λ key here there. free.both key here (Contains-append_left vs more_vs key there);
    left = λ key here there. free.left key here (Contains-append_left ts more_ts key there);
    right = λ key here there. free.right key (Contains-append_left vs more_vs key here) there;
  }

  others_free : AreKeysFree ws us more_vs more_ts
  others_free = record {
    both = λ key here there. free.both key here (Contains-append_right vs more_vs key there);
    left = λ key here there. free.left key here (Contains-append_right ts more_ts key there);
    right = λ key here there. free.right key (Contains-append_right vs more_vs key here) there;
  }

-- ---- one change before and behind a set

pub record IsPast (a : Change) (state : State) (bs : List Change) : Type 0 where
  pub taken : AreTaken (effect a state) bs
  pub set_writes : all_writes (effect a state) bs ≡ all_writes state bs
  pub set_uses : all_uses (effect a state) bs ≡ all_uses state bs
  pub behind : Takes a (end_of state bs)
  pub one_end : end_of (effect a state) bs ≡ effect a (end_of state bs)

past : (a : Change) (state : State) (bs : List Change) → Takes a state → AreTaken state bs → AreKeysFree (writes a state.classes) (uses a state.classes) (all_writes state bs) (all_uses state bs) → IsPast a state bs
past a state [] takes all free = record { taken = tt; set_writes = refl; set_uses = refl; behind = takes; one_end = refl }
past a state (b ∷ bs) takes all free =
    let behind_b = effect b state in
    let keys : AreKeysFree (writes a state.classes) (uses a state.classes) (writes b state.classes) (uses b state.classes) =
    first_free (writes a state.classes) (uses a state.classes) (writes b state.classes) (uses b state.classes) (all_writes behind_b bs) (all_uses behind_b bs) free in
    let rest : AreKeysFree (writes a state.classes) (uses a state.classes) (all_writes behind_b bs) (all_uses behind_b bs) =
    others_free (writes a state.classes) (uses a state.classes) (writes b state.classes) (uses b state.classes) (all_writes behind_b bs) (all_uses behind_b bs) free in
    let b_later : Later a b state (effect a state) = behind_one a b state (free_changes a b state keys) takes all.0 in
    let a_later : Later b a state (effect b state) = behind_one b a state (free_changes b a state (turned keys)) all.0 takes in
    let same : effect b (effect a state) ≡ effect a (effect b state) = one_end a b state (free_changes a b state keys) takes all.0 in
    let more : IsPast a behind_b bs =
    past a behind_b bs a_later.taken all.1
    (subst (λ ws. AreKeysFree ws (uses a behind_b.classes) (all_writes behind_b bs) (all_uses behind_b bs)) (sym a_later.writes)
    (subst (λ us. AreKeysFree (writes a state.classes) us (all_writes behind_b bs) (all_uses behind_b bs)) (sym a_later.uses) rest)) in
    record {
      taken = (b_later.taken, subst (λ s. AreTaken s bs) (sym same) more.taken);
      set_writes = λ i. b_later.writes i ++ (ap (λ s. all_writes s bs) same ∙ more.set_writes) i;
      set_uses = λ i. b_later.uses i ++ (ap (λ s. all_uses s bs) same ∙ more.set_uses) i;
      behind = more.behind;
      one_end = ap (λ s. end_of s bs) same ∙ more.one_end;
    }

-- ---- two sets

pub merged : (cs bs : List Change) (state : State) → AreTaken state cs → AreTaken state bs → AreKeysFree (all_writes state cs) (all_uses state cs) (all_writes state bs) (all_uses state bs)
    → AreTaken (end_of state cs) bs × (end_of (end_of state cs) bs ≡ end_of (end_of state bs) cs)
merged [] bs state ours theirs free = (theirs, refl)
merged (a ∷ cs) bs state ours theirs free =
    let behind_a = effect a state in
    let back = turned free in
    let first : AreKeysFree (writes a state.classes) (uses a state.classes) (all_writes state bs) (all_uses state bs) =
    turned (first_free (all_writes state bs) (all_uses state bs) (writes a state.classes) (uses a state.classes) (all_writes behind_a cs) (all_uses behind_a cs) back) in
    let others : AreKeysFree (all_writes behind_a cs) (all_uses behind_a cs) (all_writes state bs) (all_uses state bs) =
    turned (others_free (all_writes state bs) (all_uses state bs) (writes a state.classes) (uses a state.classes) (all_writes behind_a cs) (all_uses behind_a cs) back) in
    let one : IsPast a state bs = past a state bs ours.0 theirs first in
    let more =
    merged cs bs behind_a ours.1 one.taken
    (subst (λ ws. AreKeysFree (all_writes behind_a cs) (all_uses behind_a cs) ws (all_uses behind_a bs)) (sym one.set_writes)
    (subst (λ us. AreKeysFree (all_writes behind_a cs) (all_uses behind_a cs) (all_writes state bs) us) (sym one.set_uses) others)) in
    (more.0, more.1 ∙ ap (λ s. end_of s cs) one.one_end)
