-- Gaps one by one: whether a member is in the set, and what the set has so far.
use Rattle.std.proofs.Common.{◌≡◌, ◌∙◌, ap, sym, refl, ℕ, zero, suc, ◌+◌, ◌<◌, ◌≤◌, Bool, true, false, nat_le, if◌then◌else◌, List, [], ◌∷◌, ◌++◌, length, get_or, take, drop, map as list_map, set, slice_get, Option, Some, None, option_map, is_some, arith, append-nil, length-append, length-take, subst, All}
use Rattle.std.specs.Int.{from_bool}
use Rattle.std.specs.Option.{option_map_or}
use Rattle.std.proofs.lemmas.Bool.Decides.{nat_tests}
use Rattle.std.proofs.lemmas.List.{drop_all, map-append, take_all, take_more}
use Rattle.std.proofs.lemmas.List.Elements.{All-get_or, filter_map-append}
use Rattle.std.proofs.lemmas.Option.{none-some, same_Some, slice_get_read}
use Rattle.s80_history.specs.declared.members.Member.{Member}
use Rattle.s80_history.specs.declared.noted.Noted.{Noted}
use Rattle.s80_history.specs.Members.{IsWithin, added, filled, gap, gaps, gaps_from, last_of, member, with_last}
use Rattle.s80_history.specs.Topics.{is_new}
use Rattle.s80_history.proofs.Grouping.{length_gaps}

abbrev Gaps : Type 0
Gaps = List (Option Noted)

abbrev pub place : Option Noted → Option ℕ
place x = option_map (λ m. m.at) x

abbrev pub places_in : Gaps → List ℕ
places_in xs = list_map (λ m. m.at) (filled xs)

-- ---- one member

gap_at : (last : ℕ → ℕ) (k : ℕ) (xs : List Member) (i : ℕ) (r : Member) → slice_get xs i ≡ Some r → get_or (gaps_from last k xs) i None ≡ gap last (k + i) r
gap_at last k [] i r e = absurd (none-some r e)
gap_at last k (x ∷ xs) zero r e = λ i. gap last (here i) (same_Some x r e i)
  where
    here : k ≡ k + 0
    here = omega arith
gap_at last k (x ∷ xs) (suc i) r e = gap_at last (suc k) xs i r e ∙ ap (λ n. gap last n r) further
  where
    further : suc k + i ≡ k + suc i
    further = omega arith

last_at : (xs : List Member) (g : ℕ) (s : Member) → slice_get xs g ≡ Some s → last_of xs g ≡ s.last
last_at xs g s e = ap (λ o. option_map_or (λ (r : Member). r.last) o 0) e

gap_is : (xs : List Member) (i : ℕ) (r s : Member) → slice_get xs i ≡ Some r → slice_get xs r.group ≡ Some s → get_or (gaps xs) i None ≡ (if nat_le s.last i then Some r.noted else None)
gap_is xs i r s there first =
    gap_at (last_of xs) 0 xs i r there ∙ (λ j. if nat_le (last_at xs r.group s first j) (here j) then Some r.noted else None)
  where
    here : 0 + i ≡ i
    here = omega arith

-- it is in the set, or left out
member_kept : (xs : List Member) (i : ℕ) (r s : Member) → slice_get xs i ≡ Some r → slice_get xs r.group ≡ Some s → s.last ≤ i → Some r.noted ≡ get_or (gaps xs) i None
member_kept xs i r s there first kept = sym (gap_is xs i r s there first ∙ ap (λ b. if b then Some r.noted else None) test)
  where
    test : nat_le s.last i ≡ true
    test = grind (arith, nat_tests)

member_left : (xs : List Member) (i : ℕ) (r s : Member) → slice_get xs i ≡ Some r → slice_get xs r.group ≡ Some s → i < s.last → None ≡ get_or (gaps xs) i None
member_left xs i r s there first left = sym (gap_is xs i r s there first ∙ ap (λ b. if b then Some r.noted else None) test)
  where
    test : nat_le s.last i ≡ false
    test = grind (arith, nat_tests)

module _ (xs : List Member) (i : ℕ) (r s : Member) (within : i < length xs) (all : All (IsWithin (length xs)) xs) (read : r ≡ get_or xs i r) (first : s ≡ get_or xs r.group s) where
  there : slice_get xs i ≡ Some r
  there = slice_get_read xs (length xs) i r refl within read

  its_first : slice_get xs r.group ≡ Some s
  its_first = slice_get_read xs (length xs) r.group s refl (subst (λ (q : Member). q.group < length xs) (sym read) (All-get_or (IsWithin (length xs)) xs i r within all).group) first

  pub kept_read : (get_or xs r.group s).last ≤ i → Some r.noted ≡ get_or (gaps xs) i None
  kept_read kept = member_kept xs i r s there its_first (subst (λ (q : Member). q.last ≤ i) (sym first) kept)

  pub left_read : i < (get_or xs r.group s).last → None ≡ get_or (gaps xs) i None
  left_read left = member_left xs i r s there its_first (subst (λ (q : Member). i < q.last) (sym first) left)

-- ---- one more

-- another last one of a group is written
last_written : (xs : List Member) (g v : ℕ) (r : Member) → slice_get xs g ≡ Some r → set xs g (record { noted = r.noted; group = r.group; last = v }) ≡ with_last xs g v
last_written [] g v r e = refl
last_written (x ∷ xs) zero v r e = ap (λ (s : Member). record { noted = s.noted; group = s.group; last = v } ∷ xs) (sym (same_Some x r e))
last_written (x ∷ xs) (suc g) v r e = ap (λ ys. x ∷ ys) (last_written xs g v r e)

pub added_new : (xs items : List Member) (m : Noted) (g number : ℕ) (r : Member) → items ≡ xs ++ member m g number ∷ [] → number ≡ length xs → g ≤ length xs → r ≡ get_or items g r → true ≡ is_new m
    → set items g (record { noted = r.noted; group = r.group; last = number }) ≡ added xs m g
added_new xs items m g number r is own le read new =
    let more : length items ≡ length xs + 1 = ap length is ∙ length-append xs (member m g number ∷ []) in
    last_written items g number r (slice_get_read items (length items) g r refl (omega (arith, more, le)) read)
    ∙ (λ i. with_last ((is ∙ ap (λ n. xs ++ member m g n ∷ []) own) i) g (own i))
    ∙ ap (λ b. if b then with_last (xs ++ member m g (length xs) ∷ []) g (length xs) else xs ++ member m g (length xs) ∷ []) new

-- ---- what the set has so far

option_case : (x : Option Noted) (p : ℕ) → Some p ≡ place x → (m : Noted) × (x ≡ Some m) × (m.at ≡ p)
option_case None p e = absurd (none-some p (sym e))
option_case (Some m) p e = (m, refl, sym (same_Some p m.at e))

no_case : (x : Option Noted) → None ≡ place x → x ≡ None
no_case None e = refl
no_case (Some m) e = absurd (none-some m.at e)

module _ (xs : Gaps) (i : ℕ) (within : i < length xs) where
  filled_more : filled (take (i + 1) xs) ≡ filled (take i xs) ++ filled (get_or xs i None ∷ [])
  filled_more = ap filled (take_more xs i None within) ∙ filter_map-append (λ (x : Option Noted). x) (take i xs) (get_or xs i None ∷ [])

  filled_none : None ≡ place (get_or xs i None) → filled (take (i + 1) xs) ≡ filled (take i xs)
  filled_none none = filled_more ∙ ap (λ x. filled (take i xs) ++ filled (x ∷ [])) (no_case (get_or xs i None) none) ∙ append-nil (filled (take i xs))

  pub count_more : (b : Bool) (o : Option ℕ) → b ≡ is_some o → o ≡ place (get_or xs i None) → length (filled (take i xs)) + from_bool b ≡ length (filled (take (i + 1) xs))
  count_more b o test is = ap (λ t. length (filled (take i xs)) + from_bool t) (test ∙ ap is_some is) ∙ go (get_or xs i None) ∙ sym (ap length filled_more)
    where
      go : (x : Option Noted) → length (filled (take i xs)) + from_bool (is_some (place x)) ≡ length (filled (take i xs) ++ filled (x ∷ []))
      go None = sym (length-append (filled (take i xs)) [])
      go (Some m) = sym (length-append (filled (take i xs)) (m ∷ []))

  pub members_one : (m : Noted) → Some m ≡ get_or xs i None → filled (take (i + 1) xs) ≡ filled (take i xs) ++ m ∷ []
  members_one m some = filled_more ∙ ap (λ x. filled (take i xs) ++ filled (x ∷ [])) (sym some)

  pub members_none : None ≡ get_or xs i None → filled (take (i + 1) xs) ≡ filled (take i xs)
  members_none none = filled_more ∙ ap (λ x. filled (take i xs) ++ filled (x ∷ [])) (sym none) ∙ append-nil (filled (take i xs))

  pub places_one : (p : ℕ) → Some p ≡ place (get_or xs i None) → places_in (take (i + 1) xs) ≡ places_in (take i xs) ++ p ∷ []
  places_one p some =
      let m = option_case (get_or xs i None) p some in
      ap (list_map (λ (m : Noted). m.at)) (filled_more ∙ ap (λ x. filled (take i xs) ++ filled (x ∷ [])) m.1)
      ∙ map-append (λ (m : Noted). m.at) (filled (take i xs)) (m.0 ∷ [])
      ∙ ap (λ n. places_in (take i xs) ++ n ∷ []) m.2

  pub places_none : None ≡ place (get_or xs i None) → places_in (take (i + 1) xs) ≡ places_in (take i xs)
  places_none none = ap (list_map (λ (m : Noted). m.at)) (filled_none none)

filled_short : (xs : Gaps) → length (filled xs) ≤ length xs
filled_short [] = omega arith
filled_short (None ∷ xs) = let rest = filled_short xs in omega (arith, rest)
filled_short (Some m ∷ xs) = let rest = filled_short xs in omega (arith, rest)

pub few_filled : (xs : Gaps) (i : ℕ) → length (filled (take i xs)) ≤ i
few_filled xs i = let short = filled_short (take i xs) in omega (arith, short, length-take i xs)

pub all_taken : (members : List Member) (i : ℕ) → length members ≤ i → take i (gaps members) ≡ gaps members
all_taken members i h = take_all i (gaps members) (omega (arith, h, length_gaps members))

pub none_left : (members : List Member) (i : ℕ) → length members ≤ i → drop i (gaps members) ≡ []
none_left members i h = drop_all i (gaps members) (omega (arith, h, length_gaps members))

pub in_gaps : (members : List Member) (i : ℕ) → i < length members → i < length (gaps members)
in_gaps members i h = omega (arith, h, length_gaps members)
