-- Changes at work on a system, and their keys noted.
use Rattle.std.proofs.Common.{◌≡◌, ◌∙◌, ◌++◌, ◌||◌, ◌+◌, ℕ, zero, suc, sym, ap, subst, List, [], ◌∷◌, Some, Ok, Err, take, append-nil, append_assoc, arith}
use Rattle.std.specs.Prelude.{slice_get}
use Rattle.std.proofs.lemmas.List.Folds.{list_any-append}
use Rattle.s80_change.specs.declared.change.Change.{Change}
use Rattle.s80_form.specs.declared.refusal.Refusal.{Refusal}
use Rattle.s80_form.specs.declared.refusal.Refused.{Refused}
use Rattle.s80_form.specs.declared.refusal.Refused.TheVariants as refused
use Rattle.s80_class.specs.Classes.{Classes}
use Rattle.s80_apply.specs.Accept.{accept}
use Rattle.s80_apply.specs.List.{AreAccepted, state_after, state_from, state_or}
use Rattle.s80_apply.specs.State.{State}
use Rattle.s80_apply.specs.System.{IsSystemOf, Prepares, SystemState}
use Rattle.s80_apply.proofs.lemmas.Lists.{accepted_more, from_more, is_accepted}
use Rattle.s80_merge.specs.declared.key.Key.{Key}
use Rattle.s80_merge.specs.declared.planning.PlanFault.{PlanFault}
use Rattle.s80_merge.specs.declared.planning.PlanFault.TheVariants.{Memory, Theirs}
use Rattle.s80_merge.specs.declared.set.Touched.{Touched}
use Rattle.s80_merge.specs.Merging.{IsFirstRefused, set_uses, set_writes}
use Rattle.s80_merge.specs.Order.{has, same_key}
use Rattle.s80_merge.specs.Touched.{uses, writes}
use Rattle.s80_merge.specs.Work.{Gains, IsNoted, IsWorked, IsWorkedAt, Touches}

-- ---- one change

pub worked_so : (state after : State) (change : Change) (now : SystemState) → accept change state ≡ Ok after → IsSystemOf now after → (accept change state ≡ Ok (state_after change state)) × IsSystemOf now (state_after change state)
worked_so state after change now is made =
    let same : after ≡ state_after change state = sym (ap (λ answer. state_or answer state) is) in
    (is ∙ ap (λ s. Ok s) same, subst (IsSystemOf now) same made)

pub refused_so : (state : State) (change : Change) (now : SystemState) (why : Refused) → Prepares state change now (Err why) → IsSystemOf now state → IsWorked state change now (Err why)
refused_so state change now (refused.Refusal refusal) is stays = (is, stays)
refused_so state change now refused.Memory is stays = tt

pub left_so : (state : State) (change : Change) (now : SystemState) (refusal : Refusal) → accept change state ≡ Err refusal → IsSystemOf now state → IsSystemOf now (state_after change state)
left_so state change now refusal is stays = subst (IsSystemOf now) (sym (ap (λ answer. state_or answer state) is)) stays

-- ---- a list, change by change

taken_further : {X : Type 0} (xs : List X) (i : ℕ) (x : X) → slice_get xs i ≡ Some x → take (suc i) xs ≡ take i xs ++ x ∷ []
taken_further [] i x at = absurd (cc)
taken_further (y ∷ ys) zero x at = let same : y ≡ x = cc in ap (λ z. z ∷ []) same
taken_further (y ∷ ys) (suc i) x at = ap (λ l. y ∷ l) (taken_further ys i x at)

pub take_next : {X : Type 0} (xs : List X) (i : ℕ) (x : X) → slice_get xs i ≡ Some x → take (i + 1) xs ≡ take i xs ++ x ∷ []
take_next xs i x at = let on : i + 1 ≡ suc i = omega arith in ap (λ n. take n xs) on ∙ taken_further xs i x at

pub from_next : (state : State) (cs : List Change) (i : ℕ) (c : Change) → slice_get cs i ≡ Some c → state_from state (take (i + 1) cs) ≡ state_after c (state_from state (take i cs))
from_next state cs i c at = ap (state_from state) (take_next cs i c at) ∙ from_more state (take i cs) c

writes_more : (state : State) (cs : List Change) (c : Change) → set_writes state (cs ++ c ∷ []) ≡ set_writes state cs ++ writes c (state_from state cs).classes
writes_more state [] c = append-nil (writes c state.classes)
writes_more state (d ∷ ds) c =
    ap (λ keys. writes d state.classes ++ keys) (writes_more (state_after d state) ds c) ∙ sym (append_assoc (writes d state.classes) (set_writes (state_after d state) ds) (writes c (state_from (state_after d state) ds).classes))

uses_more : (state : State) (cs : List Change) (c : Change) → set_uses state (cs ++ c ∷ []) ≡ set_uses state cs ++ uses c (state_from state cs).classes
uses_more state [] c = append-nil (uses c state.classes)
uses_more state (d ∷ ds) c =
    ap (λ keys. uses d state.classes ++ keys) (uses_more (state_after d state) ds c) ∙ sym (append_assoc (uses d state.classes) (set_uses (state_after d state) ds) (uses c (state_from (state_after d state) ds).classes))

-- what is known behind so many changes of a set
pub record IsSoFar (state : State) (done : List Change) (system : SystemState) (touched : Touched) : Type 0 where
  pub made : IsSystemOf system (state_from state done)
  pub accepted : AreAccepted state done
  pub keys : Touches state done touched

gained : (key : Key) (before now : List Key) (old more all : List Key) → has key now ≡ (has key before || has key more) → has key before ≡ has key old → all ≡ old ++ more → has key now ≡ has key all
gained key before now old more all gains so is = gains ∙ ap (λ b. b || has key more) so ∙ sym (list_any-append (same_key key) old more) ∙ ap (has key) (sym is)

pub one_more : (state : State) (cs : List Change) (i : ℕ) (c : Change) (system now : SystemState) (before after : Touched) (classes : Classes) → slice_get cs i ≡ Some c → classes ≡ system.table.classes
    → IsSoFar state (take i cs) system before → Gains before c classes after → IsWorkedAt i (state_from state (take i cs)) c now (Ok tt) → IsSoFar state (take (i + 1) cs) now after
one_more state cs i c system now before after classes at are so gains worked =
    let done : List Change = take i cs in
    let here : State = state_from state done in
    let same : classes ≡ here.classes = are ∙ so.made.classes in
    subst (λ ds. IsSoFar state ds now after) (sym (take_next cs i c at))
    (record {
      made = subst (IsSystemOf now) (sym (from_more state done c)) worked.1;
      accepted = accepted_more state done c so.accepted (is_accepted (accept c here) (state_after c here) worked.0);
      keys = record {
        writes = λ key. gained key before.writes after.writes (set_writes state done) (writes c classes) (set_writes state (done ++ c ∷ [])) (gains.writes key) (so.keys.writes key)
            (writes_more state done c ∙ ap (λ k. set_writes state done ++ writes c k) (sym same));
        uses = λ key. gained key before.uses after.uses (set_uses state done) (uses c classes) (set_uses state (done ++ c ∷ [])) (gains.uses key) (so.keys.uses key)
            (uses_more state done c ∙ ap (λ k. set_uses state done ++ uses c k) (sym same));
      };
    })

pub none_yet : (state : State) (system : SystemState) (touched : Touched) → IsSystemOf system state → touched.writes ≡ [] → touched.uses ≡ [] → IsSoFar state [] system touched
none_yet state system touched is no_writes no_uses = record { made = is; accepted = tt; keys = record { writes = λ key. ap (has key) no_writes; uses = λ key. ap (has key) no_uses } }

pub broken_off : (state : State) (cs : List Change) (i : ℕ) (c : Change) (now : SystemState) (fault : PlanFault) → slice_get cs i ≡ Some c → AreAccepted state (take i cs)
    → IsWorkedAt i (state_from state (take i cs)) c now (Err fault) → IsNoted state cs (Err fault)
broken_off state cs i c now Memory at all why = tt
broken_off state cs i c now (Theirs index refusal) at all why = subst (λ k. IsFirstRefused state cs k refusal) (sym why.0) (record { before = all; change = c; at = at; refused = why.1 })

pub all_noted : (state : State) (cs : List Change) (done : List Change) (system : SystemState) (touched : Touched) → done ≡ cs → IsSoFar state done system touched → IsNoted state cs (Ok touched)
all_noted state cs done system touched is so = subst (λ ds. AreAccepted state ds × Touches state ds touched) is (so.accepted, so.keys)
