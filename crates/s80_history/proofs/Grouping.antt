-- The members with one more: their groups, and what is left out.
use Rattle.std.proofs.Common.{◌≡◌, ◌∙◌, ℕ, zero, suc, ◌+◌, ◌<◌, ◌≤◌, Bool, true, false, if◌then◌else◌, nat_eq, nat_le, List, [], ◌∷◌, ◌++◌, length, slice_get, All, Some, None, refl, sym, ap, arith, length-append, ⊎_elim}
use Rattle.std.specs.Option.{option_map_or}
use Rattle.std.proofs.lemmas.Bool.{cases_lt}
use Rattle.std.proofs.lemmas.Bool.Decides.{nat_tests}
use Rattle.std.proofs.lemmas.List.{map-append}
use Rattle.std.proofs.lemmas.List.Elements.{All-cons, All-head, All-push, All-tail, All-weaker}
use Rattle.std.proofs.lemmas.Option.{none-some, same_Some, slice_get_within}
use Rattle.s80_history.specs.declared.members.Member.{Member}
use Rattle.s80_history.specs.declared.noted.Noted.{Noted}
use Rattle.s80_history.specs.Members.{IsWithin, added_as, gap, gaps, gaps_from, last_of, member, with_last}
use Rattle.s80_history.specs.Sound.{HasFirst, groups_of, without}
use Rattle.s80_history.specs.Topics.{Topic, is_on}

-- ---- members by their numbers

slice_get_left : {X : Type 0} (xs ys : List X) (i : ℕ) → i < length xs → slice_get (xs ++ ys) i ≡ slice_get xs i
slice_get_left [] ys i h = let no : ⊥ = omega (arith, h) in absurd no
slice_get_left (x ∷ xs) ys zero h = refl
slice_get_left (x ∷ xs) ys (suc i) h = slice_get_left xs ys i (omega (arith, h))

slice_get_last : {X : Type 0} (xs : List X) (x : X) → slice_get (xs ++ x ∷ []) (length xs) ≡ Some x
slice_get_last [] x = refl
slice_get_last (y ∷ xs) x = slice_get_last xs x

last_more : (xs : List Member) (r : Member) (g : ℕ) → g < length xs → last_of (xs ++ r ∷ []) g ≡ last_of xs g
last_more xs r g h = ap (λ o. option_map_or (λ (s : Member). s.last) o 0) (slice_get_left xs (r ∷ []) g h)

last_own : (xs : List Member) (r : Member) → last_of (xs ++ r ∷ []) (length xs) ≡ r.last
last_own xs r = ap (λ o. option_map_or (λ (s : Member). s.last) o 0) (slice_get_last xs r)

last_within : (count : ℕ) (xs : List Member) (g : ℕ) → All (IsWithin count) xs → g < length xs → last_of xs g < count
last_within count [] g all h = let no : ⊥ = omega (arith, h) in absurd no
last_within count (r ∷ xs) zero all h = (All-head (IsWithin count) r xs all).last
last_within count (r ∷ xs) (suc g) all h = last_within count xs g (All-tail (IsWithin count) r xs all) (omega (arith, h))

-- ---- gaps

gaps_append : (last : ℕ → ℕ) (k : ℕ) (xs ys : List Member) → gaps_from last k (xs ++ ys) ≡ gaps_from last k xs ++ gaps_from last (k + length xs) ys
gaps_append last k [] ys = ap (λ n. gaps_from last n ys) here
  where
    here : k ≡ k + 0
    here = omega arith
gaps_append last k (x ∷ xs) ys = ap (λ gs. gap last k x ∷ gs) (gaps_append last (suc k) xs ys ∙ ap (λ n. gaps_from last (suc k) xs ++ gaps_from last n ys) further)
  where
    further : suc k + length xs ≡ k + suc (length xs)
    further = omega arith

gaps_same : (last other : ℕ → ℕ) (k : ℕ) (xs : List Member) → All (λ r. last r.group ≡ other r.group) xs → gaps_from last k xs ≡ gaps_from other k xs
gaps_same last other k [] all = refl
gaps_same last other k (r ∷ xs) all =
    let one = All-head (λ (s : Member). last s.group ≡ other s.group) r xs all in
    let others = gaps_same last other (suc k) xs (All-tail (λ (s : Member). last s.group ≡ other s.group) r xs all) in
    λ i. (if nat_le (one i) k then Some r.noted else None) ∷ others i

length_gaps_from : (last : ℕ → ℕ) (k : ℕ) (xs : List Member) → length (gaps_from last k xs) ≡ length xs
length_gaps_from last k [] = refl
length_gaps_from last k (r ∷ xs) = ap suc (length_gaps_from last (suc k) xs)

pub length_gaps : (xs : List Member) → length (gaps xs) ≡ length xs
length_gaps xs = length_gaps_from (last_of xs) 0 xs

-- ---- another last one of a group

gaps_with : (last : ℕ → ℕ) (k : ℕ) (xs : List Member) (g v : ℕ) → gaps_from last k (with_last xs g v) ≡ gaps_from last k xs
gaps_with last k [] g v = refl
gaps_with last k (r ∷ xs) zero v = refl
gaps_with last k (r ∷ xs) (suc g) v = ap (λ gs. gap last k r ∷ gs) (gaps_with last (suc k) xs g v)

groups_with : (xs : List Member) (g v : ℕ) → groups_of (with_last xs g v) ≡ groups_of xs
groups_with [] g v = refl
groups_with (r ∷ xs) zero v = refl
groups_with (r ∷ xs) (suc g) v = ap (λ gs. r.group ∷ gs) (groups_with xs g v)

length_with : (xs : List Member) (g v : ℕ) → length (with_last xs g v) ≡ length xs
length_with [] g v = refl
length_with (r ∷ xs) zero v = refl
length_with (r ∷ xs) (suc g) v = ap suc (length_with xs g v)

last_with : (xs : List Member) (g v h : ℕ) → g < length xs → last_of (with_last xs g v) h ≡ (if nat_eq h g then v else last_of xs h)
last_with [] g v h within = let no : ⊥ = omega (arith, within) in absurd no
last_with (r ∷ xs) zero v zero within = refl
last_with (r ∷ xs) zero v (suc h) within = ap (λ b. if b then v else last_of xs h) (sym apart)
  where
    apart : nat_eq (suc h) zero ≡ false
    apart = grind (arith, nat_tests)
last_with (r ∷ xs) (suc g) v zero within = ap (λ b. if b then v else r.last) (sym apart)
  where
    apart : nat_eq zero (suc g) ≡ false
    apart = grind (arith, nat_tests)
last_with (r ∷ xs) (suc g) v (suc h) within = last_with xs g v h (omega (arith, within)) ∙ ap (λ b. if b then v else last_of xs h) same
  where
    same : nat_eq h g ≡ nat_eq (suc h) (suc g)
    same = grind (arith, nat_tests)

noted_with : (xs : List Member) (g v i : ℕ) (r : Member) → slice_get xs i ≡ Some r → (s : Member) × (slice_get (with_last xs g v) i ≡ Some s) × (s.noted ≡ r.noted)
noted_with [] g v i r e = absurd (none-some r e)
noted_with (x ∷ xs) zero v zero r e = (record { noted = x.noted; group = x.group; last = v }, refl, ap (λ (s : Member). s.noted) (same_Some x r e))
noted_with (x ∷ xs) zero v (suc i) r e = (r, e, refl)
noted_with (x ∷ xs) (suc g) v zero r e = (r, e, refl)
noted_with (x ∷ xs) (suc g) v (suc i) r e = noted_with xs g v i r e

within_with : (count : ℕ) (xs : List Member) (g v : ℕ) → v < count → All (IsWithin count) xs → All (IsWithin count) (with_last xs g v)
within_with count [] g v h all = all
within_with count (r ∷ xs) zero v h all =
    All-cons (IsWithin count) (record { noted = r.noted; group = r.group; last = v }) xs (record { group = (All-head (IsWithin count) r xs all).group; last = h }) (All-tail (IsWithin count) r xs all)
within_with count (r ∷ xs) (suc g) v h all =
    All-cons (IsWithin count) r (with_last xs g v) (All-head (IsWithin count) r xs all) (within_with count xs g v h (All-tail (IsWithin count) r xs all))

-- ---- one member more

module _ (leaves_out : Bool) (xs : List Member) (m : Noted) (g : ℕ) (all : All (IsWithin (length xs)) xs) (le : g ≤ length xs) where
  abbrev more : List Member
  more = xs ++ member m g (length xs) ∷ []

  length_more : length more ≡ length xs + 1
  length_more = length-append xs (member m g (length xs) ∷ [])

  in_more : g < length more
  in_more = omega (arith, le, length_more)

  last_kept : All (λ r. last_of more r.group ≡ last_of xs r.group) xs
  last_kept = All-weaker (IsWithin (length xs)) (λ r. last_of more r.group ≡ last_of xs r.group) (λ r h. last_more xs (member m g (length xs)) r.group h.group) xs all

  last_here : last_of more g ≤ 0 + length xs
  last_here = ⊎_elim (λ lt. let is = last_more xs (member m g (length xs)) g lt in let below = last_within (length xs) xs g all lt in omega (arith, is, below))
      (λ ge.
      let same : g ≡ length xs = omega (arith, ge, le) in
      let own : last_of more g ≡ length xs = ap (last_of more) same ∙ last_own xs (member m g (length xs)) in
      omega (arith, own))
      (cases_lt g (length xs))

  shown : (last k : ℕ) → last ≤ k → (if nat_le last k then Some m else None) ∷ [] ≡ Some m ∷ []
  shown last k h = ap (λ b. (if b then Some m else None) ∷ []) below
    where
      below : nat_le last k ≡ true
      below = grind (arith, nat_tests)

  gaps_old : gaps more ≡ gaps xs ++ Some m ∷ []
  gaps_old =
      gaps_append (last_of more) 0 xs (member m g (length xs) ∷ [])
      ∙ (λ i. gaps_same (last_of more) (last_of xs) 0 xs last_kept i ++ shown (last_of more g) (0 + length xs) last_here i)

  abbrev renewed : List Member
  renewed = with_last more g (length xs)

  last_renewed : (h : ℕ) → last_of renewed h ≡ (if nat_eq h g then length xs else last_of more h)
  last_renewed h = last_with more g (length xs) h in_more

  gaps_emptied : (k : ℕ) (zs : List Member) → k + length zs ≤ length xs → All (IsWithin (length xs)) zs
      → gaps_from (last_of renewed) k zs ≡ without (Some g) (groups_of zs) (gaps_from (last_of xs) k zs)
  gaps_emptied k [] fits within = refl
  gaps_emptied k (r ∷ zs) fits within =
      λ i. here i ∷ gaps_emptied (suc k) zs (omega (arith, fits)) (All-tail (IsWithin (length xs)) r zs within) i
    where
      one : IsWithin (length xs) r
      one = All-head (IsWithin (length xs)) r zs within

      above : nat_le (length xs) k ≡ false
      above = grind (arith, nat_tests, fits)

      by_test : (b : Bool) → last_of renewed r.group ≡ (if b then length xs else last_of more r.group)
          → gap (last_of renewed) k r ≡ (if b then None else gap (last_of xs) k r)
      by_test true is = ap (λ n. if nat_le n k then Some r.noted else None) is ∙ ap (λ b. if b then Some r.noted else None) above
      by_test false is = ap (λ n. if nat_le n k then Some r.noted else None) (is ∙ last_more xs (member m g (length xs)) r.group one.group)

      here : gap (last_of renewed) k r ≡ (if nat_eq r.group g then None else gap (last_of xs) k r)
      here = by_test (nat_eq r.group g) (last_renewed r.group)

  gaps_new : gaps renewed ≡ without (Some g) (groups_of xs) (gaps xs) ++ Some m ∷ []
  gaps_new =
      gaps_with (last_of renewed) 0 more g (length xs)
      ∙ gaps_append (last_of renewed) 0 xs (member m g (length xs) ∷ [])
      ∙ (λ i. gaps_emptied 0 xs (omega arith) all i ++ shown (last_of renewed g) (0 + length xs) own i)
    where
      itself : nat_eq g g ≡ true
      itself = grind (arith, nat_tests)

      is : last_of renewed g ≡ length xs
      is = last_renewed g ∙ ap (λ b. if b then length xs else last_of more g) itself

      own : last_of renewed g ≤ 0 + length xs
      own = omega (arith, is)

  pub gaps_added : gaps (added_as leaves_out xs m g) ≡ (if leaves_out then without (Some g) (groups_of xs) (gaps xs) else gaps xs) ++ Some m ∷ []
  gaps_added = go leaves_out
    where
      go : (b : Bool) → gaps (if b then renewed else more) ≡ (if b then without (Some g) (groups_of xs) (gaps xs) else gaps xs) ++ Some m ∷ []
      go true = gaps_new
      go false = gaps_old

  pub groups_added : groups_of (added_as leaves_out xs m g) ≡ groups_of xs ++ g ∷ []
  groups_added = go leaves_out
    where
      go : (b : Bool) → groups_of (if b then renewed else more) ≡ groups_of xs ++ g ∷ []
      go true = groups_with more g (length xs) ∙ map-append (λ (r : Member). r.group) xs (member m g (length xs) ∷ [])
      go false = map-append (λ (r : Member). r.group) xs (member m g (length xs) ∷ [])

  pub length_added : length (added_as leaves_out xs m g) ≡ length xs + 1
  length_added = go leaves_out
    where
      go : (b : Bool) → length (if b then renewed else more) ≡ length xs + 1
      go true = length_with more g (length xs) ∙ length_more
      go false = length_more

  pub within_added : All (IsWithin (length xs + 1)) (added_as leaves_out xs m g)
  within_added = go leaves_out
    where
      old : All (IsWithin (length xs + 1)) xs
      old = All-weaker (IsWithin (length xs)) (IsWithin (length xs + 1)) (λ r h. record { group = omega (arith, h.group); last = omega (arith, h.last) }) xs all

      with_one : All (IsWithin (length xs + 1)) more
      with_one = All-push (IsWithin (length xs + 1)) xs (member m g (length xs)) old (record { group = omega (arith, le); last = omega arith })

      go : (b : Bool) → All (IsWithin (length xs + 1)) (if b then renewed else more)
      go true = within_with (length xs + 1) more g (length xs) (omega arith) with_one
      go false = with_one

  -- members keep what they are
  noted_added : (i : ℕ) (r : Member) → slice_get more i ≡ Some r → (s : Member) × (slice_get (added_as leaves_out xs m g) i ≡ Some s) × (s.noted ≡ r.noted)
  noted_added i r e = go leaves_out
    where
      go : (b : Bool) → (s : Member) × (slice_get (if b then renewed else more) i ≡ Some s) × (s.noted ≡ r.noted)
      go true = noted_with more g (length xs) i r e
      go false = (r, e, refl)

  pub first_kept : (u : Topic) (i : ℕ) → HasFirst xs u i → HasFirst (added_as leaves_out xs m g) u i
  first_kept u i first =
      let within = slice_get_within xs i first.first first.there in
      let s = noted_added i first.first (slice_get_left xs (member m g (length xs) ∷ []) i within ∙ first.there) in
      record { first = s.0; there = s.1; has = ap (is_on u) s.2 ∙ first.has }

  pub first_added : (u : Topic) → is_on u m ≡ true → HasFirst (added_as leaves_out xs m g) u (length xs)
  first_added u has =
      let s = noted_added (length xs) (member m g (length xs)) (slice_get_last xs (member m g (length xs))) in
      record { first = s.0; there = s.1; has = ap (is_on u) s.2 ∙ has }
