-- Two change sets without conflict merge in either order.
use Rattle.std.proofs.Common.{◌≡◌, ◌∙◌, ◌++◌, inl, inr, ℕ, zero, suc, refl, sym, ap, subst, List, [], ◌∷◌, Some, None, Result, Ok, Err}
use Rattle.std.specs.List.{Contains}
use Rattle.s80_change.specs.declared.change.Change.{Change}
use Rattle.s80_form.specs.declared.refusal.Refusal.{Refusal}
use Rattle.s80_class.specs.Classes.{IsValid}
use Rattle.s80_apply.specs.Accept.{accept}
use Rattle.s80_apply.specs.List.{AreAccepted, IsAccepted, IsBuilt, state_after, state_from, state_of, state_or}
use Rattle.s80_apply.specs.State.{State, kernel_state}
use Rattle.s80_apply.proofs.LastingWithin.{within_last}
use Rattle.s80_apply.proofs.lemmas.Lists.{is_accepted, state_more}
use Rattle.s80_merge.specs.declared.key.Key.{Key}
use Rattle.s80_merge.specs.Merging.{AreWithinLimits, IsConflict, IsFirstRefused, IsLimit, MergeEitherWay, set_uses, set_writes}
use Rattle.s80_merge.specs.Touched.{uses, writes}
use Rattle.s80_merge.proofs.Accepting.{accepted_within, refused_for, taken, within}
use Rattle.s80_merge.proofs.Acts.{effect}
use Rattle.s80_merge.proofs.Sets.{AreKeysFree, AreTaken, all_uses, all_writes, end_of, merged, turned}
use Rattle.s80_merge.proofs.Takes.{Takes}

-- ---- lists that are put one behind the other

pub from_both : (state : State) (xs ys : List Change) → state_from state (xs ++ ys) ≡ state_from (state_from state xs) ys
from_both state [] ys = refl
from_both state (x ∷ xs) ys = from_both (state_after x state) xs ys

pub accepted_both : (state : State) (xs ys : List Change) → AreAccepted state xs → AreAccepted (state_from state xs) ys → AreAccepted state (xs ++ ys)
accepted_both state [] ys one other = other
accepted_both state (x ∷ xs) ys one other = (one.0, accepted_both (state_after x state) xs ys one.1 other)

pub accepted_first : (state : State) (xs ys : List Change) → AreAccepted state (xs ++ ys) → AreAccepted state xs
accepted_first state [] ys all = tt
accepted_first state (x ∷ xs) ys all = (all.0, accepted_first (state_after x state) xs ys all.1)

pub accepted_last : (state : State) (xs ys : List Change) → AreAccepted state (xs ++ ys) → AreAccepted (state_from state xs) ys
accepted_last state [] ys all = all
accepted_last state (x ∷ xs) ys all = accepted_last (state_after x state) xs ys all.1

within_behind : (state : State) (xs ys : List Change) → AreWithinLimits state (xs ++ ys) → AreWithinLimits (state_from state xs) ys
within_behind state [] ys all = all
within_behind state (x ∷ xs) ys all = within_behind (state_after x state) xs ys all.1

-- ---- a set that is accepted

pub record IsWorked (state : State) (cs : List Change) : Type 0 where
  pub taken : AreTaken state cs
  pub last : state_from state cs ≡ end_of state cs
  pub writes : set_writes state cs ≡ all_writes state cs
  pub uses : set_uses state cs ≡ all_uses state cs

answer_of : (answer : Result State Refusal) → IsAccepted answer → (now : State) × (answer ≡ Ok now)
answer_of (Ok now) is = (now, refl)
answer_of (Err refusal) is = absurd is

step_taken : (c : Change) (state : State) → IsValid state.classes → IsAccepted (accept c state) → Takes c state × (state_after c state ≡ effect c state)
step_taken c state valid is =
    let now = answer_of (accept c state) is in
    let ok = taken c state now.0 valid now.1 in
    (ok.0, ap (λ answer. state_or answer state) now.1 ∙ sym ok.1)

worked_more : (c : Change) (cs : List Change) (state : State) → Takes c state → state_after c state ≡ effect c state → IsWorked (state_after c state) cs → IsWorked state (c ∷ cs)
worked_more c cs state takes same more = record {
  taken = (takes, subst (λ s. AreTaken s cs) same more.taken);
  last = more.last ∙ ap (λ s. end_of s cs) same;
  writes = ap (λ keys. writes c state.classes ++ keys) (more.writes ∙ ap (λ s. all_writes s cs) same);
  uses = ap (λ keys. uses c state.classes ++ keys) (more.uses ∙ ap (λ s. all_uses s cs) same);
}

pub worked : (base cs : List Change) → AreAccepted (state_of base) cs → IsWorked (state_of base) cs
worked base [] all = record { taken = tt; last = refl; writes = refl; uses = refl }
worked base (c ∷ cs) all =
    let step = step_taken c (state_of base) (within_last base).valid all.0 in
    let more = worked (base ++ c ∷ []) cs (subst (λ s. AreAccepted s cs) (sym (state_more base c)) all.1) in
    worked_more c cs (state_of base) step.0 step.1 (subst (λ s. IsWorked s cs) (state_more base c) more)

-- ---- a set that is taken, within the limits

all_within : (cs : List Change) (state : State) → AreTaken state cs → AreWithinLimits state cs → AreAccepted state cs × (state_from state cs ≡ end_of state cs)
all_within [] state takes limits = (tt, refl)
all_within (c ∷ cs) state takes limits =
    let ok = within c state takes.0 limits.0 in
    let same : state_after c state ≡ effect c state = ap (λ answer. state_or answer state) ok in
    let more = all_within cs (state_after c state) (subst (λ s. AreTaken s cs) (sym same) takes.1) limits.1 in
    ((is_accepted (accept c state) (effect c state) ok, more.0), more.1 ∙ ap (λ s. end_of s cs) same)

-- what is refused of it first
refused_then : (state : State) (cs : List Change) (index : ℕ) (refusal : Refusal) → AreTaken state cs → IsFirstRefused state cs index refusal → IsLimit refusal
refused_then state [] index refusal takes is = absurd (let none : None ≡ Some is.change = is.at in cc)
refused_then state (c ∷ cs) zero refusal takes is =
    let same : c ≡ is.change = let both : Some c ≡ Some is.change = is.at in cc in
    refused_for c state refusal takes.0 (ap (λ d. accept d state) same ∙ is.refused)
refused_then state (c ∷ cs) (suc index) refusal takes is =
    let ok = within c state takes.0 (accepted_within (accept c state) is.before.0) in
    let same : state_after c state ≡ effect c state = ap (λ answer. state_or answer state) ok in
    refused_then (state_after c state) cs index refusal (subst (λ s. AreTaken s cs) (sym same) takes.1) (record { before = is.before.1; change = is.change; at = is.at; refused = is.refused })

-- ---- both sets

module _ (base ours theirs : List Change) where
  abbrev start : State
  start = state_of base

  -- the second set behind the first
  module _ (mine : IsWorked start ours) (behind : AreTaken (end_of start ours) theirs) where
    taken_behind : AreTaken (state_of (base ++ ours)) theirs
    taken_behind = subst (λ s. AreTaken s theirs) (sym (from_both kernel_state base ours ∙ mine.last)) behind

    refused_so : (index : ℕ) (refusal : Refusal) → IsFirstRefused (state_of (base ++ ours)) theirs index refusal → IsLimit refusal
    refused_so index refusal is = refused_then (state_of (base ++ ours)) theirs index refusal taken_behind is

    module _ (limits : AreWithinLimits kernel_state (base ++ (ours ++ theirs))) where
      second : AreAccepted (state_from start ours) theirs × (state_from (state_from start ours) theirs ≡ end_of (state_from start ours) theirs)
      second =
          all_within theirs (state_from start ours) (subst (λ s. AreTaken s theirs) (sym mine.last) behind)
          (within_behind start ours theirs (within_behind kernel_state base (ours ++ theirs) limits))

      accepted_so : IsBuilt base → AreAccepted start ours → IsBuilt (base ++ (ours ++ theirs))
      accepted_so built all = accepted_both kernel_state base (ours ++ theirs) built (accepted_both start ours theirs all second.0)

      state_so : state_of (base ++ (ours ++ theirs)) ≡ end_of (end_of start ours) theirs
      state_so = from_both kernel_state base (ours ++ theirs) ∙ from_both start ours theirs ∙ second.1 ∙ ap (λ s. end_of s theirs) mine.last

free_sets : (state : State) (ours theirs : List Change) → IsWorked state ours → IsWorked state theirs → ((key : Key) → IsConflict state ours theirs key → ⊥)
    → AreKeysFree (all_writes state ours) (all_uses state ours) (all_writes state theirs) (all_uses state theirs)
free_sets state ours theirs mine other free = record {
  both = λ key here there. free key (inl (in_list (sym mine.writes) key here, inl (in_list (sym other.writes) key there)));
  left = λ key here there. free key (inl (in_list (sym mine.writes) key here, inr (in_list (sym other.uses) key there)));
  right = λ key here there. free key (inr (in_list (sym other.writes) key here, inr (in_list (sym mine.uses) key there)));
}
  where
    in_list : {xs ys : List Key} → xs ≡ ys → (key : Key) → Contains xs key → Contains ys key
    in_list same key has = subst (λ keys. Contains keys key) same has

pub merge_either_way : (base ours theirs : List Change) → IsBuilt base → AreAccepted (state_of base) ours → AreAccepted (state_of base) theirs
    → ((key : Key) → IsConflict (state_of base) ours theirs key → ⊥) → MergeEitherWay base ours theirs
merge_either_way base ours theirs built all_ours all_theirs free =
    let mine = worked base ours all_ours in
    let other = worked base theirs all_theirs in
    let keys = free_sets (state_of base) ours theirs mine other free in
    let there = merged ours theirs (state_of base) mine.taken other.taken keys in
    let back = merged theirs ours (state_of base) other.taken mine.taken (turned keys) in
    record {
      behind_ours = refused_so base ours theirs mine there.0;
      behind_theirs = refused_so base theirs ours other back.0;
      ours_first = λ limits. accepted_so base ours theirs mine there.0 limits built all_ours;
      theirs_first = λ limits. accepted_so base theirs ours other back.0 limits built all_theirs;
      one_state = λ one two. state_so base ours theirs mine there.0 one ∙ there.1 ∙ sym (state_so base theirs ours other back.0 two);
    }
