-- One member more, and the groups are again what the topics' next members leave out.
use Rattle.std.proofs.Common.{◌≡◌, ◌∙◌, ℕ, suc, ◌<◌, ◌≤◌, Bool, true, false, ◌&&◌, if◌then◌else◌, nat_eq, List, [], ◌∷◌, ◌++◌, length, slice_get, All, Option, Some, None, unwrap_or, refl, sym, ap, subst, arith, true≢false}
use Rattle.std.specs.Option.{option_map_or}
use Rattle.std.proofs.lemmas.Bool.{eqb-true}
use Rattle.std.proofs.lemmas.Bool.Decides.{nat_tests}
use Rattle.std.proofs.lemmas.List.{length-map}
use Rattle.std.proofs.lemmas.List.Elements.{All-head, All-tail, filter_map-append}
use Rattle.std.proofs.lemmas.Option.{none-some, same_Some, slice_get_within}
use Rattle.s80_history.specs.declared.members.Member.{Member}
use Rattle.s80_history.specs.declared.noted.Noted.{Noted}
use Rattle.s80_history.specs.Members.{IsWithin, added, added_as, filled, gaps, in_set}
use Rattle.s80_history.specs.Sound.{HasFirst, IsTied, emptied, groups_of, is_in, without}
use Rattle.s80_history.specs.Topics.{Topic, ends, is_new, is_on, topic_of}
use Rattle.s80_history.proofs.Emptying.{both, emptied_by_end, emptied_more, emptied_twice, filled_emptied, new_topic, no_end, on_topic, one_topic, topic_on, without_more, without_none, without_twice}
use Rattle.s80_history.proofs.Grouping.{first_added, first_kept, gaps_added, groups_added, length_gaps}
use Rattle.s80_history.proofs.Showing.{noted_after, without_topic}

-- ---- the groups of topics with one member more

abbrev pub slot_after : Noted → ℕ → Topic → Option ℕ → Option ℕ
slot_after m number u slot = if ends u m then None else (if is_on u m then Some (unwrap_or slot number) else slot)

abbrev pub number_of : Noted → ℕ → (Topic → Option ℕ) → ℕ
number_of m number slot = option_map_or (λ u. unwrap_or (slot u) number) (topic_of m) number

-- ---- groups that no member has

fresh : (n : ℕ) (rows : List Member) (xs : List (Option Noted)) → All (IsWithin n) rows → without (Some n) (groups_of rows) xs ≡ xs
fresh n [] xs all = refl
fresh n (r ∷ rows) [] all = refl
fresh n (r ∷ rows) (x ∷ xs) all = λ i. (if apart i then None else x) ∷ fresh n rows xs (All-tail (IsWithin n) r rows all) i
  where
    apart : nat_eq r.group n ≡ false
    apart = let below = (All-head (IsWithin n) r rows all).group in grind (arith, nat_tests, below)

length_without : (one : Option ℕ) (groups : List ℕ) (xs : List (Option Noted)) → length (without one groups xs) ≡ length xs
length_without one [] xs = refl
length_without one (g ∷ groups) [] = refl
length_without one (g ∷ groups) (x ∷ xs) = ap suc (length_without one groups xs)

-- ---- the step

module _ (xs : List Member) (m : Noted) (slot : Topic → Option ℕ) (all : All (IsWithin (length xs)) xs) (tied : (u : Topic) → IsTied xs u (slot u)) where
  abbrev number : ℕ
  number = length xs

  abbrev group : ℕ
  group = number_of m number slot

  abbrev before : List (Option Noted)
  before = gaps xs

  abbrev groups : List ℕ
  groups = groups_of xs

  first_below : (u : Topic) (a : ℕ) → slot u ≡ Some a → a < number
  first_below u a is = let first = (tied u).first a is in slice_get_within xs a first.first first.there

  slot_within : (u : Topic) → unwrap_or (slot u) number ≤ number
  slot_within u = go (slot u) refl
    where
      go : (s : Option ℕ) → slot u ≡ s → unwrap_or s number ≤ number
      go None is = omega arith
      go (Some a) is = let below = first_below u a is in omega (arith, below)

  pub group_within : group ≤ number
  group_within = go (topic_of m)
    where
      go : (t : Option Topic) → option_map_or (λ u. unwrap_or (slot u) number) t number ≤ number
      go None = omega arith
      go (Some u) = slot_within u

  group_of_topic : (u : Topic) → is_on u m ≡ true → group ≡ unwrap_or (slot u) number
  group_of_topic u on = ap (λ t. option_map_or (λ u. unwrap_or (slot u) number) t number) (topic_on u m on)

  -- without the group of the member's topic
  same_group : (u : Topic) → is_on u m ≡ true → (zs : List (Option Noted)) → without (Some group) groups zs ≡ without (slot u) groups zs
  same_group u on zs = ap (λ g. without (Some g) groups zs) (group_of_topic u on) ∙ go (slot u)
    where
      go : (s : Option ℕ) → without (Some (unwrap_or s number)) groups zs ≡ without s groups zs
      go None = fresh number xs zs all ∙ sym (without_none groups zs)
      go (Some a) = refl

  left_of_topic : (v : Topic) → topic_of m ≡ Some v → without (Some group) groups before ≡ emptied v before
  left_of_topic v topic = same_group v (on_topic v m topic) before ∙ sym (tied v).same

  -- the member leaves out those of its group, as one may that is new, or none
  module _ (leaves_out : Bool) (fits : leaves_out ≡ true → is_new m ≡ true) where
    abbrev kept : List (Option Noted)
    kept = if leaves_out then without (Some group) groups before else before

    -- what is left after the member's topic is tied as it was
    tied_kept : (u : Topic) → emptied u kept ≡ without (slot u) groups kept
    tied_kept u = go leaves_out refl
      where
        go : (b : Bool) → leaves_out ≡ b → emptied u (if b then without (Some group) groups before else before) ≡ without (slot u) groups (if b then without (Some group) groups before else before)
        go true new =
            let v = new_topic m (fits new) in
            let left = left_of_topic v.0 v.1 in
            let own = (tied v.0).same in
            ap (emptied u) left ∙ emptied_twice u v.0 before
            ∙ (λ i. both (own i) ((tied u).same i))
            ∙ sym (without_twice (slot u) (slot v.0) groups before)
            ∙ ap (without (slot u) groups) (sym own ∙ sym left)
        go false old = (tied u).same

    length_kept : length groups ≡ length kept
    length_kept = length-map xs (λ (r : Member). r.group) ∙ sym (go leaves_out)
      where
        go : (b : Bool) → length (if b then without (Some group) groups before else before) ≡ length xs
        go true = length_without (Some group) groups before ∙ length_gaps xs
        go false = length_gaps xs

    -- another topic's group isn't that of the member
    apart : (u : Topic) → is_on u m ≡ false → is_in (slot u) group ≡ false
    apart u off = go (slot u) refl
      where
        by_topic : (a : ℕ) → slot u ≡ Some a → (t : Option Topic) → topic_of m ≡ t → option_map_or (λ v. unwrap_or (slot v) number) t number ≡ a → ⊥
        by_topic a is None topic same = let below = first_below u a is in omega (arith, below, same)
        by_topic a is (Some v) topic same = by_slot (slot v) refl same
          where
            by_slot : (s : Option ℕ) → slot v ≡ s → unwrap_or s number ≡ a → ⊥
            by_slot None none own = let below = first_below u a is in omega (arith, below, own)
            by_slot (Some b) there own =
                let mine = (tied u).first a is in
                let other = (tied v).first b there in
                let row : mine.first ≡ other.first = same_Some mine.first other.first (sym mine.there ∙ ap (slice_get xs) (sym own) ∙ other.there) in
                let one : u ≡ v = one_topic u v other.first.noted (ap (λ (r : Member). is_on u r.noted) (sym row) ∙ mine.has) other.has in
                true≢false (sym (on_topic v m topic) ∙ ap (λ w. is_on w m) (sym one) ∙ off)

        go : (s : Option ℕ) → slot u ≡ s → is_in s group ≡ false
        go None is = refl
        go (Some a) is = by_test (nat_eq group a) refl
          where
            by_test : (b : Bool) → nat_eq group a ≡ b → nat_eq group a ≡ false
            by_test true e = absurd (by_topic a is (topic_of m) refl (eqb-true group a e))
            by_test false e = e

    -- the gaps with the member behind them
    abbrev after : List (Option Noted)
    after = kept ++ Some m ∷ []

    tied_after : (u : Topic) → emptied u after ≡ without (slot_after m number u (slot u)) (groups ++ group ∷ []) after
    tied_after u = by_end (ends u m) refl
      where
        by_topic : ends u m ≡ false → (b : Bool) → is_on u m ≡ b → emptied u after ≡ without (if b then Some (unwrap_or (slot u) number) else slot u) (groups ++ group ∷ []) after
        by_topic goes_on true on =
            let own = group_of_topic u on in
            emptied_more u kept m goes_on
            ∙ (λ i. (tied_kept u ∙ sym (same_group u on kept)) i ++ (if on i && true then None else Some m) ∷ [])
            ∙ sym (ap (λ g. without (Some g) (groups ++ group ∷ []) after) (sym own) ∙ without_more (Some group) groups kept group (Some m) length_kept
            ∙ ap (λ b. without (Some group) groups kept ++ (if b then None else Some m) ∷ []) itself)
          where
            itself : nat_eq group group ≡ true
            itself = grind (arith, nat_tests)
        by_topic goes_on false off =
            emptied_more u kept m goes_on
            ∙ (λ i. tied_kept u i ++ (if off i && true then None else Some m) ∷ [])
            ∙ sym (without_more (slot u) groups kept group (Some m) length_kept ∙ ap (λ b. without (slot u) groups kept ++ (if b then None else Some m) ∷ []) (apart u off))

        no_topic : ends u m ≡ true → (b : Bool) → is_on u m ≡ b → is_on u m ≡ false
        no_topic removes true on = absurd (true≢false (sym removes ∙ no_end u u m on))
        no_topic removes false off = off

        by_end : (b : Bool) → ends u m ≡ b
            → emptied u after ≡ without (if b then None else (if is_on u m then Some (unwrap_or (slot u) number) else slot u)) (groups ++ group ∷ []) after
        by_end true removes =
            emptied_by_end u kept m removes
            ∙ ap (λ b. kept ++ (if b && true then None else Some m) ∷ []) (no_topic removes (is_on u m) refl)
            ∙ sym (without_none (groups ++ group ∷ []) after)
        by_end false goes_on = by_topic goes_on (is_on u m) refl

    gaps_are : gaps (added_as leaves_out xs m group) ≡ after
    gaps_are = gaps_added leaves_out xs m group all group_within

    first_after : (u : Topic) (a : ℕ) → slot_after m number u (slot u) ≡ Some a → HasFirst (added_as leaves_out xs m group) u a
    first_after u a is = by_end (ends u m) is
      where
        stays : slot u ≡ Some a → HasFirst (added_as leaves_out xs m group) u a
        stays there = first_kept leaves_out xs m group all group_within u a ((tied u).first a there)

        by_slot : (s : Option ℕ) → slot u ≡ s → is_on u m ≡ true → Some (unwrap_or s number) ≡ Some a → HasFirst (added_as leaves_out xs m group) u a
        by_slot None none on same = subst (λ n. HasFirst (added_as leaves_out xs m group) u n) (same_Some number a same) (first_added leaves_out xs m group all group_within u on)
        by_slot (Some b) there on same = stays (there ∙ same)

        by_topic : (b : Bool) → is_on u m ≡ b → (if b then Some (unwrap_or (slot u) number) else slot u) ≡ Some a → HasFirst (added_as leaves_out xs m group) u a
        by_topic true on same = by_slot (slot u) refl on same
        by_topic false off same = stays same

        by_end : (b : Bool) → (if b then None else (if is_on u m then Some (unwrap_or (slot u) number) else slot u)) ≡ Some a → HasFirst (added_as leaves_out xs m group) u a
        by_end true none = absurd (none-some a none)
        by_end false same = by_topic (is_on u m) refl same

    pub tied_added : (u : Topic) → IsTied (added_as leaves_out xs m group) u (slot_after m number u (slot u))
    tied_added u = record {
      first = first_after u;
      same = ap (emptied u) gaps_are ∙ tied_after u
          ∙ sym (λ i. without (slot_after m number u (slot u)) (groups_added leaves_out xs m group all group_within i) (gaps_are i));
    }

    -- ---- the set

    pub set_is : in_set (added_as leaves_out xs m group) ≡ filled kept ++ m ∷ []
    set_is = ap filled gaps_are ∙ filter_map-append (λ (x : Option Noted). x) kept (Some m ∷ [])

    pub set_kept : filled kept ≡ (if leaves_out then without_topic (topic_of m) (in_set xs) else in_set xs)
    set_kept = go leaves_out refl
      where
        go : (b : Bool) → leaves_out ≡ b → filled (if b then without (Some group) groups before else before) ≡ (if b then without_topic (topic_of m) (in_set xs) else in_set xs)
        go true new =
            let v = new_topic m (fits new) in
            ap filled (left_of_topic v.0 v.1) ∙ filled_emptied v.0 before ∙ sym (ap (λ t. without_topic t (in_set xs)) v.1)
        go false old = refl

    pub set_with : in_set (added_as leaves_out xs m group) ≡ (if leaves_out then without_topic (topic_of m) (in_set xs) else in_set xs) ++ m ∷ []
    set_with = set_is ∙ ap (λ ms. ms ++ m ∷ []) set_kept

  pub set_added : in_set (added xs m group) ≡ noted_after m (in_set xs)
  set_added = set_with (is_new m) (λ new. new)

  -- one that is restored leaves out none
  pub set_restored : in_set (added_as false xs m group) ≡ in_set xs ++ m ∷ []
  set_restored = set_with false (λ new. absurd (true≢false (sym new)))
