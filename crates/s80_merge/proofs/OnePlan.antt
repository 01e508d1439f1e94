-- A plan has one answer, but for want of memory.
use Rattle.std.proofs.Common.{◌≡◌, ◌≢◌, ◌⊎◌, ◌∙◌, inl, inr, ℕ, zero, suc, refl, sym, ap, subst, List, [], ◌∷◌, Some, None, Result, Ok, Err, true≢false}
use Rattle.std.specs.Cmp.{tied_itself}
use Rattle.std.specs.List.{AllByRecursion, Contains}
use Rattle.std.specs.List.Sorted.{IsStrictlySortedBy}
use Rattle.std.specs.Ordering.{is_lt, ordering_reverse}
use Rattle.std.specs.declared.cmp.Ordering.TheVariants.{Less}
use Rattle.s80_change.specs.declared.change.Change.{Change}
use Rattle.s80_form.specs.declared.refusal.Refusal.{Refusal}
use Rattle.s80_apply.specs.Accept.{accept}
use Rattle.s80_apply.specs.List.{AreAccepted, IsAccepted, state_after}
use Rattle.s80_apply.specs.State.{State}
use Rattle.s80_merge.specs.declared.key.Key.{Key}
use Rattle.s80_merge.specs.declared.planning.MergePlan.{MergePlan}
use Rattle.s80_merge.specs.declared.planning.PlanFault.{PlanFault}
use Rattle.s80_merge.specs.declared.planning.PlanFault.TheVariants.{Memory, Theirs}
use Rattle.s80_merge.specs.Merging.{IsFirstRefused, IsPlan}
use Rattle.s80_merge.specs.Order.{key_cmp, key_total}
use Rattle.s80_merge.proofs.Members.{here, in_none, later, one_of}
use Rattle.s80_merge.proofs.lemmas.Planned.{accepted_at}

-- ---- keys in order

all_at : (P : Key → Type 0) (keys : List Key) → AllByRecursion P keys → (key : Key) → Contains keys key → P key
all_at P [] all key has = absurd (in_none key has)
all_at P (k ∷ ks) all key has = by_case (one_of k ks key has) (all_at P ks all.1 key)
  where
    by_case : (k ≡ key) ⊎ Contains ks key → (Contains ks key → P key) → P key
    by_case (inl same) rest = subst P same all.0
    by_case (inr among) rest = rest among

-- a key isn't below itself, nor below one that is below it
not_itself : (key : Key) → key_cmp key key ≡ Less → ⊥
not_itself key less = true≢false (sym (ap is_lt less) ∙ ap is_lt (tied_itself key_total key))

not_both : (one other : Key) → key_cmp one other ≡ Less → key_cmp other one ≡ Less → ⊥
not_both one other less back = true≢false (sym (ap is_lt less) ∙ ap is_lt (key_total.antisymm one other ∙ ap ordering_reverse back))

one_list : (xs ys : List Key) → IsStrictlySortedBy key_cmp xs → IsStrictlySortedBy key_cmp ys → ((key : Key) → Contains xs key → Contains ys key) → ((key : Key) → Contains ys key → Contains xs key) → xs ≡ ys
unfolding IsStrictlySortedBy
one_list [] [] up rises there back = refl
one_list [] (y ∷ ys) up rises there back = absurd (in_none y (back y (here y ys)))
one_list (x ∷ xs) [] up rises there back = absurd (in_none x (there x (here x xs)))
one_list (x ∷ xs) (y ∷ ys) up rises there back = λ i. first i ∷ one_list xs ys up.1 rises.1 on off i
  where
    by_first : (y ≡ x) ⊎ Contains ys x → (x ≡ y) ⊎ Contains xs y → x ≡ y
    by_first (inl same) other = sym same
    by_first (inr among) (inl same) = same
    by_first (inr among) (inr other) = absurd (not_both y x (all_at (λ key. key_cmp y key ≡ Less) ys rises.0 x among) (all_at (λ key. key_cmp x key ≡ Less) xs up.0 y other))

    first : x ≡ y
    first = by_first (one_of y ys x (there x (here x xs))) (one_of x xs y (back y (here y ys)))

    on : (key : Key) → Contains xs key → Contains ys key
    on key has = by_case (one_of y ys key (there key (later x xs key has)))
      where
        by_case : (y ≡ key) ⊎ Contains ys key → Contains ys key
        by_case (inr among) = among
        by_case (inl same) = absurd (not_itself x (subst (λ k. key_cmp x k ≡ Less) (sym (first ∙ same)) (all_at (λ k. key_cmp x k ≡ Less) xs up.0 key has)))

    off : (key : Key) → Contains ys key → Contains xs key
    off key has = by_case (one_of x xs key (back key (later y ys key has)))
      where
        by_case : (x ≡ key) ⊎ Contains xs key → Contains xs key
        by_case (inr among) = among
        by_case (inl same) = absurd (not_itself y (subst (λ k. key_cmp y k ≡ Less) (sym (sym first ∙ same)) (all_at (λ k. key_cmp y k ≡ Less) ys rises.0 key has)))

-- ---- the first that is refused

one_refused : (base : State) (cs : List Change) (index other : ℕ) (refusal why : Refusal) → IsFirstRefused base cs index refusal → IsFirstRefused base cs other why → (index ≡ other) × (refusal ≡ why)
one_refused base [] index other refusal why one two = absurd (let none : None ≡ Some one.change = one.at in cc)
one_refused base (c ∷ cs) zero zero refusal why one two =
    let mine : c ≡ one.change = let both : Some c ≡ Some one.change = one.at in cc in
    let theirs : c ≡ two.change = let both : Some c ≡ Some two.change = two.at in cc in
    let same : Err refusal ≡ Err why = sym one.refused ∙ ap (λ d. accept d base) (sym mine ∙ theirs) ∙ two.refused in
    (refl, cc)
one_refused base (c ∷ cs) zero (suc other) refusal why one two =
    let mine : c ≡ one.change = let both : Some c ≡ Some one.change = one.at in cc in
    absurd (subst IsAccepted (ap (λ d. accept d base) mine ∙ one.refused) two.before.0)
one_refused base (c ∷ cs) (suc index) zero refusal why one two =
    let theirs : c ≡ two.change = let both : Some c ≡ Some two.change = two.at in cc in
    absurd (subst IsAccepted (ap (λ d. accept d base) theirs ∙ two.refused) one.before.0)
one_refused base (c ∷ cs) (suc index) (suc other) refusal why one two =
    let more =
    one_refused (state_after c base) cs index other refusal why (record { before = one.before.1; change = one.change; at = one.at; refused = one.refused })
    (record { before = two.before.1; change = two.change; at = two.at; refused = two.refused }) in
    (ap suc more.0, more.1)

-- ---- plans

not_accepted : (base : State) (cs : List Change) (index : ℕ) (refusal : Refusal) → AreAccepted base cs → IsFirstRefused base cs index refusal → ⊥
not_accepted base cs index refusal all is = subst IsAccepted is.refused (accepted_at base cs index is.change all is.at)

pub one_plan : (base : State) (ours theirs : List Change) (one other : Result MergePlan PlanFault) → IsPlan base ours theirs one → IsPlan base ours theirs other → one ≢ Err Memory → other ≢ Err Memory → one ≡ other
one_plan base ours theirs (Ok plan) (Ok other) is told _ _ =
    λ i. Ok (record { conflicts = one_list plan.conflicts other.conflicts is.1.0 told.1.0 (λ key has. (told.1.1 key).1 ((is.1.1 key).0 has)) (λ key has. (is.1.1 key).1 ((told.1.1 key).0 has)) i })
one_plan base ours theirs (Ok plan) (Err Memory) is told _ memory = absurd (memory refl)
one_plan base ours theirs (Ok plan) (Err (Theirs index refusal)) is told _ _ = absurd (not_accepted base theirs index refusal is.0 told)
one_plan base ours theirs (Err Memory) other is told memory _ = absurd (memory refl)
one_plan base ours theirs (Err (Theirs index refusal)) (Ok plan) is told _ _ = absurd (not_accepted base theirs index refusal told.0 is)
one_plan base ours theirs (Err (Theirs index refusal)) (Err Memory) is told _ memory = absurd (memory refl)
one_plan base ours theirs (Err (Theirs index refusal)) (Err (Theirs other why)) is told _ _ =
    let same = one_refused base theirs index other refusal why is told in
    λ i. Err (Theirs (same.0 i) (same.1 i))
