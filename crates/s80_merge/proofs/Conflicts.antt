-- The keys that two sets have in conflict.
use Rattle.std.proofs.Common.{◌≡◌, ◌⊎◌, ◌↔◌, ◌∙◌, ◌++◌, ◌||◌, ◌&&◌, inl, inr, Bool, true, false, true≢false, refl, sym, ap, List, [], ◌∷◌}
use Rattle.std.specs.List.{Contains}
use Rattle.std.specs.List.Sorted.{IsStrictlySortedBy}
use Rattle.s80_change.specs.declared.change.Change.{Change}
use Rattle.s80_apply.specs.State.{State}
use Rattle.s80_merge.specs.declared.key.Key.{Key}
use Rattle.s80_merge.specs.declared.set.Touched.{Touched}
use Rattle.s80_merge.specs.Merging.{AreKeys, Clashes, IsConflict, set_uses, set_writes}
use Rattle.s80_merge.specs.Order.{has, key_cmp, same_key}
use Rattle.s80_merge.specs.Work.{Touches, is_conflict, is_touched}
use Rattle.s80_merge.proofs.KeyOrder.{found, there}
use Rattle.s80_merge.proofs.KeySets.{has_last}

-- ---- one key more that is shared

and_or : (d e t : Bool) → ((d || e) && t) ≡ ((d && t) || (e && t))
and_or true e true = refl
and_or true true false = refl
and_or true false false = refl
and_or false e t = refl

or_move : (a b c : Bool) → ((a || b) || c) ≡ (a || (b || c))
or_move true b c = refl
or_move false b c = refl

pub shared_more : (k key : Key) (other : Touched) (done : List Key) (before now new : Bool) → now ≡ (before || (has k done && is_touched k other)) → new ≡ (now || (same_key k key && is_touched k other))
    → new ≡ (before || (has k (done ++ key ∷ []) && is_touched k other))
shared_more k key other done before now new so more =
    more ∙ ap (λ b. b || (same_key k key && is_touched k other)) so ∙ or_move before (has k done && is_touched k other) (same_key k key && is_touched k other)
    ∙ ap (λ b. before || b) (sym (and_or (has k done) (same_key k key) (is_touched k other)) ∙ ap (λ b. b && is_touched k other) (sym (has_last k done key)))

-- ---- what the conflicts are

or_case : (b r : Bool) → (b || r) ≡ true → (b ≡ true) ⊎ (r ≡ true)
or_case true r is = inl refl
or_case false r is = inr is

or_left : (b r : Bool) → b ≡ true → (b || r) ≡ true
or_left b r is = ap (λ c. c || r) is

or_right : (b r : Bool) → r ≡ true → (b || r) ≡ true
or_right true r is = refl
or_right false r is = is

and_case : (a b : Bool) → (a && b) ≡ true → (a ≡ true) × (b ≡ true)
and_case true b is = (refl, is)
and_case false b bad = absurd (true≢false (sym bad))

and_both : (a b : Bool) → a ≡ true → b ≡ true → (a && b) ≡ true
and_both a b one other = ap (λ c. c && b) one ∙ other

module _ (base : State) (one other : List Change) (of_one of_other : Touched) (ones : Touches base one of_one) (others : Touches base other of_other) (key : Key) where
  clashes : (has key of_one.writes && is_touched key of_other) ≡ true → Clashes base one other key
  clashes is = (found key (set_writes base one) (sym (ones.writes key) ∙ both.0), by_case (or_case (has key of_other.writes) (has key of_other.uses) both.1))
    where
      both : (has key of_one.writes ≡ true) × (is_touched key of_other ≡ true)
      both = and_case (has key of_one.writes) (is_touched key of_other) is

      by_case : (has key of_other.writes ≡ true) ⊎ (has key of_other.uses ≡ true) → Contains (set_writes base other) key ⊎ Contains (set_uses base other) key
      by_case (inl written) = inl (found key (set_writes base other) (sym (others.writes key) ∙ written))
      by_case (inr used) = inr (found key (set_uses base other) (sym (others.uses key) ∙ used))

  shared : Clashes base one other key → (has key of_one.writes && is_touched key of_other) ≡ true
  shared (written, touched) = and_both (has key of_one.writes) (is_touched key of_other) (ones.writes key ∙ there key (set_writes base one) written) (by_case touched)
    where
      by_case : Contains (set_writes base other) key ⊎ Contains (set_uses base other) key → is_touched key of_other ≡ true
      by_case (inl written) = or_left (has key of_other.writes) (has key of_other.uses) (others.writes key ∙ there key (set_writes base other) written)
      by_case (inr used) = or_right (has key of_other.writes) (has key of_other.uses) (others.uses key ∙ there key (set_uses base other) used)

module _ (base : State) (ours theirs : List Change) (of_ours of_theirs : Touched) (mine : Touches base ours of_ours) (other : Touches base theirs of_theirs) where
  is_told : (key : Key) → (is_conflict key of_ours of_theirs ≡ true) ↔ IsConflict base ours theirs key
  is_told key = (told, back)
    where
      told : is_conflict key of_ours of_theirs ≡ true → IsConflict base ours theirs key
      told is = by_case (or_case (has key of_ours.writes && is_touched key of_theirs) (has key of_theirs.writes && is_touched key of_ours) is)
        where
          by_case : ((has key of_ours.writes && is_touched key of_theirs) ≡ true) ⊎ ((has key of_theirs.writes && is_touched key of_ours) ≡ true) → IsConflict base ours theirs key
          by_case (inl first) = inl (clashes base ours theirs of_ours of_theirs mine other key first)
          by_case (inr second) = inr (clashes base theirs ours of_theirs of_ours other mine key second)

      back : IsConflict base ours theirs key → is_conflict key of_ours of_theirs ≡ true
      back (inl first) = or_left (has key of_ours.writes && is_touched key of_theirs) (has key of_theirs.writes && is_touched key of_ours) (shared base ours theirs of_ours of_theirs mine other key first)
      back (inr second) = or_right (has key of_ours.writes && is_touched key of_theirs) (has key of_theirs.writes && is_touched key of_ours) (shared base theirs ours of_theirs of_ours other mine key second)

  pub are_conflicts : (keys : List Key) → IsStrictlySortedBy key_cmp keys → ((key : Key) → has key keys ≡ is_conflict key of_ours of_theirs) → AreKeys (IsConflict base ours theirs) keys
  are_conflicts keys rises all = (
    rises,
    λ key.
        (λ contains. (is_told key).0 (sym (all key) ∙ there key keys contains), λ conflict. found key keys (all key ∙ (is_told key).1 conflict)),
  )
