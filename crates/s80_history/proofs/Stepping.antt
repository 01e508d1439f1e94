-- What is kept stays sound: room is made, a member is noted, the set begins anew.
use Rattle.std.proofs.Common.{◌≡◌, ◌∙◌, ap, sym, subst, refl, ℕ, ◌+◌, ◌-◌, ◌^◌, ◌<◌, ◌≤◌, max, nat_le, Bool, true, false, ◌&&◌, if◌then◌else◌, List, [], length, All, Option, Some, None, unwrap_or, is_some, option_and_then, Vec, arith, true≢false}
use Rattle.std.specs.Global.{Global}
use Rattle.std.specs.Option.{option_map_or}
use Rattle.std.proofs.lemmas.Bool.Decides.{nat_tests}
use Rattle.std.proofs.lemmas.List.Elements.{All-nil, All-same}
use Rattle.std.proofs.lemmas.Option.{none-some, same_Some}
use Rattle.s80_history.specs.declared.members.Member.{Member}
use Rattle.s80_history.specs.declared.noted.Noted.{Noted}
use Rattle.s80_history.specs.declared.noted.NotedKind.{NotedKind}
use Rattle.s80_history.specs.declared.noted.NotedKind.TheVariants as kinds
use Rattle.s80_history.specs.declared.trace.ClassTrace.{ClassTrace}
use Rattle.s80_history.specs.Members.{IsWithin, added_as}
use Rattle.s80_history.specs.Sound.{IsRoomFor, IsSound, IsTied, group_here, number_here}
use Rattle.s80_history.specs.Topics.{Topic, class_of, ends_by, is_new, is_on, is_on_by, removes_class_by, removes_method_by, topic_of}
use Rattle.s80_history.specs.Traces.{AreAlikeIn, Classes, HasPlaceBy, HasPlaceIn, IsJoinedIn, IsNotedIn, first_joined, group_in, group_under, group_with, held, joined, removed_in}
use Rattle.s80_history.proofs.Grouping.{length_added, within_added}
use Rattle.s80_history.proofs.Tying.{group_within, number_of, slot_after, tied_added}

-- ---- nothing but room

module _ (old new : Vec Member Global) (begun : ℕ) (classes now : Classes) (next : Option Noted) (same : new.items ≡ old.items) (groups : (u : Topic) → group_in now u ≡ group_in classes u)
    (removed : (class : List ℕ) → removed_in now class ≡ removed_in classes class) (sound : IsSound old begun classes next) where
  here_same : (u : Topic) → group_here begun classes u ≡ group_here begun now u
  here_same u = sym (λ i. number_here begun (max begun (removed (class_of u) i)) (groups u i))

  fits_still : begun + length new.items < 2 ^ 64
  fits_still = subst (λ xs. begun + length xs < 2 ^ 64) (sym same) sound.fits

  pub sound_still : (ready : Option Noted) → ((noted : Noted) → ready ≡ Some noted → IsRoomFor new begun now noted) → IsSound new begun now ready
  sound_still ready room = record {
    fits = fits_still;
    within = subst (λ xs. All (IsWithin (length xs)) xs) (sym same) sound.within;
    removed = λ class. subst (λ xs. removed_in now class ≤ begun + length xs) (sym same) (subst (λ n. n ≤ begun + length old.items) (sym (removed class)) (sound.removed class));
    groups = λ u g is. subst (λ xs. g < begun + length xs) (sym same) (sound.groups u g (sym (groups u) ∙ is));
    tied = λ u. subst (λ xs. IsTied xs u (group_here begun now u)) (sym same) (subst (IsTied old.items u) (here_same u) (sound.tied u));
    ready = room;
  }

  pub sound_unready : IsSound new begun now None
  sound_unready = sound_still None (λ noted is. absurd (none-some noted is))

module _ (old new : Vec Member Global) (begun : ℕ) (classes now : Classes) (next : Option Noted) (same : new.items ≡ old.items) (alike : AreAlikeIn classes now) (sound : IsSound old begun classes next) where
  pub room_made : (ready : Option Noted) → ((noted : Noted) → ready ≡ Some noted → IsRoomFor new begun now noted) → IsSound new begun now ready
  room_made ready room = sound_still old new begun classes now next same alike.groups alike.removed sound ready room

  pub none_made : IsSound new begun now None
  none_made = sound_unready old new begun classes now next same alike.groups alike.removed sound

pub alike_itself : (classes : Classes) → AreAlikeIn classes classes
alike_itself classes = record { groups = λ u. refl; removed = λ class. refl; versions = λ name. refl }

-- ---- the groups of topics

module _ (begun n : ℕ) (noted : Noted) (r : ℕ) (bound : r ≤ begun + n) where
  abbrev number : ℕ
  number = begun + n

  abbrev from : ℕ
  from = max begun r

  here_of_number : number_here begun from (Some number) ≡ Some n
  here_of_number = ap (λ b. if b then Some (number - begun) else None) within ∙ ap Some own
    where
      within : nat_le from number ≡ true
      within = grind (arith, nat_tests, bound)

      own : number - begun ≡ n
      own = omega arith

  joined_here : (g : Option ℕ) → number_here begun from (Some (joined from g number)) ≡ Some (unwrap_or (number_here begun from g) n)
  joined_here None = here_of_number
  joined_here (Some x) = go (nat_le from x) refl
    where
      go : (b : Bool) → nat_le from x ≡ b → number_here begun from (Some (if b then x else number)) ≡ Some (unwrap_or (if b then Some (x - begun) else None) n)
      go true is = ap (λ b. if b then Some (x - begun) else None) is
      go false is = here_of_number

  number_joined : (g : Option ℕ) → joined from g number - begun ≡ unwrap_or (number_here begun from g) n
  number_joined None = omega arith
  number_joined (Some x) = go (nat_le from x)
    where
      go : (b : Bool) → (if b then x else number) - begun ≡ unwrap_or (if b then Some (x - begun) else None) n
      go true = refl
      go false = omega arith

  begun_joined : (g : Option ℕ) → begun ≤ joined from g number
  begun_joined None = omega arith
  begun_joined (Some x) = go (nat_le from x) refl
    where
      go : (b : Bool) → nat_le from x ≡ b → begun ≤ (if b then x else number)
      go true is = grind (arith, nat_tests, is)
      go false is = omega arith

  gone_here : (g : Option ℕ) (there : Bool) → ((x : ℕ) → g ≡ Some x → x < number) → (there ≡ false → g ≡ None) → number_here begun (max begun (if there then number else r)) g ≡ None
  gone_here None true below absent = refl
  gone_here None false below absent = refl
  gone_here (Some x) true below absent = ap (λ b. if b then Some (x - begun) else None) (above (below x refl))
    where
      above : x < number → nat_le (max begun number) x ≡ false
      above h = grind (arith, nat_tests, h)
  gone_here (Some x) false below absent = absurd (none-some x (sym (absent refl)))

  slot_by : (kind : NotedKind) (u : Topic) (g : Option ℕ) (there : Bool) → ((x : ℕ) → g ≡ Some x → x < number) → (there ≡ false → g ≡ None)
      → number_here begun (max begun (if removes_class_by kind (class_of u) noted && there then number else r))
      (if is_on_by kind u noted then Some (joined from g number) else (if removes_method_by kind u noted then None else g))
      ≡ (if ends_by kind u noted then None else (if is_on_by kind u noted then Some (unwrap_or (number_here begun from g) n) else number_here begun from g))
  slot_by kinds.Define u g there below absent = refl
  slot_by kinds.ClassVars u g there below absent = refl
  slot_by kinds.Comment u g there below absent = go (is_on_by kinds.Comment u noted)
    where
      go : (b : Bool) → number_here begun from (if b then Some (joined from g number) else g) ≡ (if b then Some (unwrap_or (number_here begun from g) n) else number_here begun from g)
      go true = joined_here g
      go false = refl
  slot_by kinds.Method u g there below absent = go (is_on_by kinds.Method u noted)
    where
      go : (b : Bool) → number_here begun from (if b then Some (joined from g number) else g) ≡ (if b then Some (unwrap_or (number_here begun from g) n) else number_here begun from g)
      go true = joined_here g
      go false = refl
  slot_by kinds.RemoveMethod u g there below absent = go (removes_method_by kinds.RemoveMethod u noted)
    where
      go : (b : Bool) → number_here begun from (if b then None else g) ≡ (if b then None else number_here begun from g)
      go true = refl
      go false = refl
  slot_by kinds.Classify u g there below absent = go (is_on_by kinds.Classify u noted)
    where
      go : (b : Bool) → number_here begun from (if b then Some (joined from g number) else g) ≡ (if b then Some (unwrap_or (number_here begun from g) n) else number_here begun from g)
      go true = joined_here g
      go false = refl
  slot_by kinds.RemoveClass u g there below absent = go (removes_class_by kinds.RemoveClass (class_of u) noted)
    where
      go : (b : Bool) → number_here begun (max begun (if b && there then number else r)) g ≡ (if b then None else number_here begun from g)
      go true = gone_here g there below absent
      go false = refl

-- ---- a member is noted

-- the place that a member asks for isn't where its block begins
placed_by : (kind : NotedKind) (classes : Classes) (noted : Noted) (at : ℕ) → HasPlaceBy kind classes noted → HasPlaceBy kind classes (record noted { at = at })
placed_by kinds.Define classes noted at place = place
placed_by kinds.ClassVars classes noted at place = place
placed_by kinds.Comment classes noted at place = place
placed_by kinds.Method classes noted at place = place
placed_by kinds.RemoveMethod classes noted at place = place
placed_by kinds.Classify classes noted at place = place
placed_by kinds.RemoveClass classes noted at place = place

pub placed_anywhere : (classes : Classes) (noted : Noted) (at : ℕ) → HasPlaceIn classes noted → HasPlaceIn classes (record noted { at = at })
placed_anywhere classes noted at place = placed_by noted.kind classes noted at place

pub joins_of : (noted : Noted) (begun n : ℕ) (old new : Classes) (result : ℕ) → IsNotedIn noted begun n old new result → IsJoinedIn noted begun n old new result
joins_of noted begun n old new result is = record { groups = is.groups; removed = is.removed; joins = is.joins }

module _ (members : Vec Member Global) (begun : ℕ) (classes : Classes) (next : Option Noted) (noted : Noted) (now : Classes) (number first : ℕ) (sound : IsSound members begun classes next)
    (numbered : number ≡ begun + length members.items) (changed : IsJoinedIn noted begun number classes now first) where
  abbrev count : ℕ
  count = length members.items

  abbrev slot : Topic → Option ℕ
  slot u = group_here begun classes u

  abbrev removed_first : Topic → ℕ
  removed_first u = removed_in classes (class_of u)

  -- what no class is seen for has no group
  absent : (u : Topic) → is_some (held classes (class_of u)) ≡ false → group_in classes u ≡ None
  absent u none = go (held classes (class_of u)) none
    where
      go : (o : Option ClassTrace) → is_some o ≡ false → option_and_then (λ (c : ClassTrace). group_under c u) o ≡ None
      go None e = refl
      go (Some c) e = absurd (true≢false e)

  slots_now : (u : Topic) → group_here begun now u ≡ slot_after noted count u (slot u)
  slots_now u =
      (λ i. number_here begun (max begun (changed.removed (class_of u) i)) (changed.groups u i))
      ∙ ap (λ n. number_here begun (max begun (if removes_class_by noted.kind (class_of u) noted && is_some (held classes (class_of u)) then n else removed_first u))
      (group_with noted (first_joined begun classes u) n u (group_in classes u))) numbered
      ∙ slot_by begun count noted (removed_first u) (sound.removed (class_of u)) noted.kind u (group_in classes u) (is_some (held classes (class_of u))) (sound.groups u) (absent u)

  topic_first : (t : Option Topic) → (option_map_or (λ u. joined (first_joined begun classes u) (group_in classes u) (begun + count)) t (begun + count) - begun
      ≡ option_map_or (λ u. unwrap_or (slot u) count) t count) × (begun ≤ option_map_or (λ u. joined (first_joined begun classes u) (group_in classes u) (begun + count)) t (begun + count))
  topic_first None = (omega arith, omega arith)
  topic_first (Some u) =
      (number_joined begun count noted (removed_first u) (sound.removed (class_of u)) (group_in classes u), begun_joined begun count noted (removed_first u) (sound.removed (class_of u)) (group_in classes u))

  first_is : first ≡ option_map_or (λ u. joined (first_joined begun classes u) (group_in classes u) (begun + count)) (topic_of noted) (begun + count)
  first_is = changed.joins ∙ ap (λ n. option_map_or (λ u. joined (first_joined begun classes u) (group_in classes u) n) (topic_of noted) n) numbered

  -- the first of its group in this set
  pub group_is : first - begun ≡ number_of noted count slot
  group_is = ap (λ n. n - begun) first_is ∙ (topic_first (topic_of noted)).0

  pub group_before : first - begun ≤ count
  group_before = subst (λ n. n ≤ count) (sym group_is) (group_within members.items noted slot sound.within sound.tied)

  removed_now : (class : List ℕ) → removed_in now class ≤ begun + (count + 1)
  removed_now class = subst (λ n. n ≤ begun + (count + 1)) (sym (changed.removed class)) (go (removes_class_by noted.kind class noted && is_some (held classes class)))
    where
      go : (b : Bool) → (if b then number else removed_in classes class) ≤ begun + (count + 1)
      go true = omega (arith, numbered)
      go false = let old = sound.removed class in omega (arith, old)

  joined_below : (from : ℕ) (g : Option ℕ) → ((x : ℕ) → g ≡ Some x → x < begun + count) → joined from g number < begun + (count + 1)
  joined_below from None below = omega (arith, numbered)
  joined_below from (Some x) below = go (nat_le from x)
    where
      go : (b : Bool) → (if b then x else number) < begun + (count + 1)
      go true = let old = below x refl in omega (arith, old)
      go false = omega (arith, numbered)

  groups_now : (u : Topic) (g : ℕ) → group_in now u ≡ Some g → g < begun + (count + 1)
  groups_now u g is = by_topic (is_on u noted) (sym (changed.groups u) ∙ is)
    where
      by_removal : (b : Bool) → (if b then None else group_in classes u) ≡ Some g → g < begun + (count + 1)
      by_removal true none = absurd (none-some g none)
      by_removal false same = let old = sound.groups u g same in omega (arith, old)

      by_topic : (b : Bool) → (if b then Some (joined (first_joined begun classes u) (group_in classes u) number) else (if removes_method_by noted.kind u noted then None else group_in classes u)) ≡ Some g
          → g < begun + (count + 1)
      by_topic true one =
          let same = same_Some (joined (first_joined begun classes u) (group_in classes u) number) g one in
          subst (λ n. n < begun + (count + 1)) same (joined_below (first_joined begun classes u) (group_in classes u) (sound.groups u))
      by_topic false other = by_removal (removes_method_by noted.kind u noted) other

  -- with the member behind the others all is sound
  module _ (new : Vec Member Global) (own : ℕ) (leaves_out : Bool) (right : leaves_out ≡ true → is_new noted ≡ true) (group : own ≡ first - begun) (is : new.items ≡ added_as leaves_out members.items noted own) (fits : begun + count + 1 < 2 ^ 64) where
    abbrev after : List Member
    after = added_as leaves_out members.items noted (number_of noted count slot)

    pub items_after : new.items ≡ after
    items_after = is ∙ ap (added_as leaves_out members.items noted) (group ∙ group_is)

    count_after : length new.items ≡ count + 1
    count_after =
        ap length items_after ∙ length_added leaves_out members.items noted (number_of noted count slot) sound.within (group_within members.items noted slot sound.within sound.tied)

    pub sound_after : IsSound new begun now None
    sound_after = record {
      fits = omega (arith, fits, count_after);
      within = subst (λ n. All (IsWithin n) new.items) (sym count_after)
          (All-same (IsWithin (count + 1)) new.items after items_after
          (within_added leaves_out members.items noted (number_of noted count slot) sound.within (group_within members.items noted slot sound.within sound.tied)));
      removed = λ class. subst (λ n. removed_in now class ≤ begun + n) (sym count_after) (removed_now class);
      groups = λ u g there. subst (λ n. g < begun + n) (sym count_after) (groups_now u g there);
      tied = λ u. subst (λ xs. IsTied xs u (group_here begun now u)) (sym items_after)
          (subst (IsTied after u) (sym (slots_now u)) (tied_added members.items noted slot sound.within sound.tied leaves_out right u));
      ready = λ m none. absurd (none-some m none);
    }

-- ---- the set begins anew

pub sound_anew : (members new : Vec Member Global) (begun now : ℕ) (classes : Classes) (next : Option Noted) → IsSound members begun classes next → new.items ≡ [] → now ≡ begun + length members.items
    → IsSound new now classes None
sound_anew members new begun now classes next sound none moved = record {
  fits = subst (λ xs. now + length xs < 2 ^ 64) (sym none) (subst (λ n. n + 0 < 2 ^ 64) (sym moved) first);
  within = All-same (IsWithin (length new.items)) new.items [] none (All-nil (IsWithin (length new.items)));
  removed = λ class. let old = sound.removed class in omega (arith, old, moved);
  groups = λ u g is. let old = sound.groups u g is in omega (arith, old, moved);
  tied = λ u. subst (λ xs. IsTied xs u (group_here now classes u)) (sym none) (subst (IsTied [] u) (sym (ungrouped u)) untied);
  ready = λ m is. absurd (none-some m is);
}
  where
    first : begun + length members.items + 0 < 2 ^ 64
    first = let old = sound.fits in omega (arith, old)

    untied : {u : Topic} → IsTied [] u None
    untied = record { first = λ g is. absurd (none-some g is); same = refl }

    ungrouped : (u : Topic) → group_here now classes u ≡ None
    ungrouped u = go (group_in classes u) (sound.groups u)
      where
        go : (g : Option ℕ) → ((x : ℕ) → g ≡ Some x → x < begun + length members.items) → number_here now (first_joined now classes u) g ≡ None
        go None below = refl
        go (Some x) below = ap (λ b. if b then Some (x - now) else None) (above (below x refl))
          where
            above : x < begun + length members.items → nat_le (first_joined now classes u) x ≡ false
            above h = grind (arith, nat_tests, h, moved)
