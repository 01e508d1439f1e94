-- The change set and the versions of a list are lawful in its image.
use Rattle.std.proofs.Common.{◌≡◌, ◌∙◌, ◌<◌, ◌≤◌, ◌^◌, ◌&&◌, ◌||◌, ◌++◌, ℕ, suc, Bool, cond, true, false, true≢false, nat_lt, refl, sym, ap, subst, List, [], ◌∷◌, length, Option, Some, None, option_map, filter, reverse, map as list_map, arith}
use Rattle.std.specs.List.{All, AllByRecursion, list_any}
use Rattle.std.specs.List.Sorted.{IsStrictlySortedBy}
use Rattle.std.specs.Option.{option_map_or}
use Rattle.std.specs.Ordering.{nat_cmp, is_lt, ordering_then}
use Rattle.std.specs.declared.cmp.Ordering.{Ordering}
use Rattle.std.specs.declared.cmp.Ordering.TheVariants.{Less, Equal, Greater}
use Rattle.std.specs.Cmp.Lexicographic.{slice_cmp, bytes_decides}
use Rattle.std.specs.Str.{bytes_eq}
use Rattle.std.proofs.lemmas.Bool.{and_parts}
use Rattle.std.proofs.lemmas.List.{length-map, length-reverse, reverse-append}
use Rattle.std.proofs.lemmas.List.Elements.{All-head, All-tail}
use Rattle.s80_base.specs.declared.names.Side.{Side}
use Rattle.s80_base.specs.declared.names.Side.TheVariants.{Instance, Class}
use Rattle.s80_dict.specs.Table.{same_side}
use Rattle.s80_change.specs.declared.change.Change.{Change}
use Rattle.s80_history.specs.declared.noted.Noted.{Noted}
use Rattle.s80_history.specs.declared.noted.NotedKind.{NotedKind}
use Rattle.s80_history.specs.declared.noted.NotedKind.TheVariants as kinds
use Rattle.s80_history.specs.History.{noting}
use Rattle.s80_history.specs.Lists.{MethodName, Placed, is_same, placed_from, put_by, puts, set_of, versions_of}
use Rattle.s80_history.specs.Order.{is_among, name_cmp, rank}
use Rattle.s80_image.specs.Format.{pair, word64}
use Rattle.s80_image.specs.History.{VersionsView, all_versions, change_set, is_above_method, noted, noted_behind, noted_kind, noted_selector, noted_side, selector_above, versions, versions_behind}
use Rattle.s80_image.specs.Parts.{class_text, is_above_number, is_selector, last_of, place_above, places, side, side_number}
use Rattle.s80_snapshot.specs.OfList.{ArePut, versions_in}
use Rattle.s80_snapshot.proofs.LawfulEntries.{class_passes, side_passes}
use Rattle.s80_snapshot.proofs.ListedChanges.{AreListed, IsFitNoted, IsGoodMethod, filter_listed, set_listed}
use Rattle.s80_snapshot.proofs.PassingFormats.{Passes, below, both_true, list_passes, pair_passes, such_passes, text_where_passes, word64_passes}
use Rattle.s80_snapshot.proofs.PassingLists.{Chain, chain_pass}
use Rattle.s80_snapshot.proofs.lemmas.SameViews.{heads, tails}

-- ---- places

-- what came before stands below this place
abbrev IsBelow : Option ℕ → ℕ → Type 0
IsBelow None from = Unit {0}
IsBelow (Some last) from = last < from

above_is : (last : Option ℕ) (from at : ℕ) → IsBelow last from → from ≤ at → is_above_number last at ≡ true
above_is None from at under le = refl
above_is (Some last) from at under le = below last at (omega (arith, under, le))

place_passes : (last : Option ℕ) (at : ℕ) → at < 2 ^ 64 → is_above_number last at ≡ true → Passes (place_above last) at
place_passes last at low above = such_passes (λ n. n) (is_above_number last) word64 at (word64_passes at low) above

-- ---- the change set

kind_passes : (k : NotedKind) → Passes noted_kind k
unfolding noted_kind
kind_passes kinds.Define bytes = refl
kind_passes kinds.ClassVars bytes = refl
kind_passes kinds.Comment bytes = refl
kind_passes kinds.Method bytes = refl
kind_passes kinds.RemoveMethod bytes = refl
kind_passes kinds.Classify bytes = refl
kind_passes kinds.RemoveClass bytes = refl

noted_passes : (last : Option ℕ) (n : Noted) → n.at < 2 ^ 64 → is_above_number last n.at ≡ true → IsFitNoted n → Passes (noted last) n
unfolding noted
noted_passes last n low above fit =
    pair_passes (place_above last) (λ _. pair noted_kind (λ kind. pair class_text (λ _. pair (noted_side kind) (λ _. noted_selector kind)))) (n.at, (n.kind, (n.class_name, (n.side, n.selector)))) (place_passes last n.at low above)
    (pair_passes noted_kind (λ kind. pair class_text (λ _. pair (noted_side kind) (λ _. noted_selector kind))) (n.kind, (n.class_name, (n.side, n.selector))) (kind_passes n.kind)
    (pair_passes class_text (λ _. pair (noted_side n.kind) (λ _. noted_selector n.kind)) (n.class_name, (n.side, n.selector)) (class_passes n.class_name fit.class)
    (pair_passes (noted_side n.kind) (λ _. noted_selector n.kind) (n.side, n.selector) fit.side fit.selector)))

abbrev note : Placed → Option Noted
note p = noting p.0 p.1

abbrev at_of : Noted → ℕ
at_of n = n.at

noted_chain : (end : ℕ) → end ≤ 2 ^ 36 → (last : Option Noted) (from : ℕ) (ms : List Noted) (ps : List Placed) → list_map Some ms ≡ list_map note ps
    → AreListed end from ps → IsBelow (option_map at_of last) from
    → Chain (λ o. noted (option_map at_of o)) last ms
noted_chain end low last from [] ps same listed under = tt
noted_chain end low last from (n ∷ ms) [] same listed under = absurd (let none = ap length same in omega (arith, none))
noted_chain end low last from (n ∷ ms) (p ∷ ps) same listed under =
    let here = listed.2.noted p.0 n (sym (heads (Some n) (note p) (list_map Some ms) (list_map note ps) same)) in
    let at : n.at ≡ p.0 = here.0 in (
      noted_passes (option_map at_of last) n (omega (arith, at, listed.1, low)) (above_is (option_map at_of last) from n.at under (omega (arith, at, listed.0))) here.1,
      noted_chain end low (Some n) (suc p.0) ms ps (tails (Some n) (note p) (list_map Some ms) (list_map note ps) same) listed.3 (omega (arith, at)),
    )

pub set_passes : (changes : List Change) (end : ℕ) (ms : List Noted) → end ≤ 2 ^ 36 → AreListed end 0 (placed_from 0 changes)
    → list_map Some ms ≡ list_map note (set_of changes) → length ms < 2 ^ 32 → Passes change_set ms
unfolding change_set
set_passes changes end ms low listed same few =
    list_passes (λ _. true) noted_behind ms few refl
    (chain_pass (λ o. noted (option_map at_of o)) ms (noted_chain end low None 0 ms (set_of changes) same (set_listed end (placed_from 0 changes) listed) tt))

-- ---- versions

turned_again : (ps : List Placed) → reverse (list_map (λ (p : Placed). p.0) (reverse ps)) ≡ list_map (λ (p : Placed). p.0) ps
turned_again [] = refl
turned_again (p ∷ ps) =
    ap (λ l. reverse (list_map (λ (q : Placed). q.0) l)) (reverse-append (p ∷ []) ps) ∙ ap reverse (mapped_both (reverse ps) (p ∷ [])) ∙ reverse-append (list_map (λ (q : Placed). q.0) (reverse ps)) (p.0 ∷ [])
    ∙ ap (λ l. p.0 ∷ l) (turned_again ps)
  where
    mapped_both : (xs ys : List Placed) → list_map (λ (q : Placed). q.0) (xs ++ ys) ≡ list_map (λ (q : Placed). q.0) xs ++ list_map (λ (q : Placed). q.0) ys
    mapped_both [] ys = refl
    mapped_both (x ∷ xs) ys = ap (λ l. x.0 ∷ l) (mapped_both xs ys)

abbrev those_of : List Change → MethodName → List Placed
those_of changes name = filter (λ (p : Placed). puts name p.1) (placed_from 0 changes)

places_are : (changes : List Change) (name : MethodName) → (versions_in changes name).places ≡ list_map (λ (p : Placed). p.0) (those_of changes name)
places_are changes name = turned_again (those_of changes name)

place_chain : (end : ℕ) → end ≤ 2 ^ 36 → (last : Option ℕ) (from : ℕ) (ps : List Placed) → AreListed end from ps → IsBelow last from
    → Chain place_above last (list_map (λ (p : Placed). p.0) ps)
place_chain end low last from [] listed under = tt
place_chain end low last from (p ∷ ps) listed under = (
  place_passes last p.0 (omega (arith, listed.1, low)) (above_is last from p.0 under listed.0),
  place_chain end low (Some p.0) (suc p.0) ps listed.3 (omega arith),
)

-- a method that some change puts
same_sides : (s t : Side) → same_side s t ≡ true → s ≡ t
same_sides Instance Instance e = refl
same_sides Instance Class e = absurd (true≢false (sym e))
same_sides Class Instance e = absurd (true≢false (sym e))
same_sides Class Class e = refl

same_name : (one other : MethodName) → is_same one other ≡ true → other ≡ one
same_name one other is =
    let first = and_parts (bytes_eq one.class_name other.class_name && same_side one.side other.side) (bytes_eq one.selector other.selector) is in
    let second = and_parts (bytes_eq one.class_name other.class_name) (same_side one.side other.side) first.0 in
    let a = (bytes_decides one.class_name other.class_name).0 second.0 in
    let b = same_sides one.side other.side second.1 in
    let c = (bytes_decides one.selector other.selector).0 first.1 in
    λ i. record { class_name = sym a i; side = sym b i; selector = sym c i }

same_again : (s : Side) → same_side s s ≡ true
same_again Instance = refl
same_again Class = refl

itself : (name : MethodName) → is_same name name ≡ true
itself name =
    both_true (bytes_eq name.class_name name.class_name && same_side name.side name.side) (bytes_eq name.selector name.selector)
    (both_true (bytes_eq name.class_name name.class_name) (same_side name.side name.side) ((bytes_decides name.class_name name.class_name).1 refl) (same_again name.side)) ((bytes_decides name.selector name.selector).1 refl)

put_good : (end from : ℕ) (name : MethodName) (ps : List Placed) → AreListed end from ps → nat_lt 0 (length (filter (λ (p : Placed). puts name p.1) ps)) ≡ true
    → IsGoodMethod name
put_good end from name [] listed some = absurd (true≢false (sym some))
put_good end from name (p ∷ ps) listed some = go (puts name p.1) refl some (put_good end (suc p.0) name ps listed.3)
  where
    by_name : (o : Option MethodName) → put_by p.1 ≡ o → option_map_or (is_same name) o false ≡ true → IsGoodMethod name
    by_name None is bad = absurd (true≢false (sym bad))
    by_name (Some other) is same = subst IsGoodMethod (same_name name other same) (listed.2.put other is)

    go : (b : Bool) → puts name p.1 ≡ b
        → nat_lt 0 (length (cond b (p ∷ filter (λ (q : Placed). puts name q.1) ps) (filter (λ (q : Placed). puts name q.1) ps))) ≡ true
        → (nat_lt 0 (length (filter (λ (q : Placed). puts name q.1) ps)) ≡ true → IsGoodMethod name) → IsGoodMethod name
    go true is some rest = by_name (put_by p.1) refl is
    go false is some rest = rest some

-- ---- their order

associates : (a b c : Ordering) → ordering_then (ordering_then a b) c ≡ ordering_then a (ordering_then b c)
associates Less b c = refl
associates Equal b c = refl
associates Greater b c = refl

ranks : (s : Side) → side_number s ≡ rank s
ranks Instance = refl
ranks Class = refl

above_name : (last name : MethodName) → name_cmp last name ≡ Less → is_above_method (Some last) name ≡ true
above_name last name is =
    ap is_lt
    ((λ i. ordering_then (slice_cmp nat_cmp last.class_name name.class_name) (ordering_then (nat_cmp (ranks last.side i) (ranks name.side i)) (slice_cmp nat_cmp last.selector name.selector)))
    ∙ sym (associates (slice_cmp nat_cmp last.class_name name.class_name) (nat_cmp (rank last.side) (rank name.side)) (slice_cmp nat_cmp last.selector name.selector)) ∙ is)

versions_pass : (last : Option MethodName) (v : VersionsView) → IsGoodMethod v.name → is_above_method last v.name ≡ true → Passes places v.places
    → Passes (versions last) v
unfolding versions
versions_pass last v good above inside =
    pair_passes class_text (λ class. pair side (λ s. pair (selector_above last class s) (λ _. places))) (v.name.class_name, (v.name.side, (v.name.selector, v.places))) (class_passes v.name.class_name good.class)
    (pair_passes side (λ s. pair (selector_above last v.name.class_name s) (λ _. places)) (v.name.side, (v.name.selector, v.places)) (side_passes v.name.side)
    (pair_passes (selector_above last v.name.class_name v.name.side) (λ _. places) (v.name.selector, v.places)
    (text_where_passes (λ word. is_selector word && is_above_method last (record { class_name = v.name.class_name; side = v.name.side; selector = word })) v.name.selector good.brief
    (both_true (is_selector v.name.selector) (is_above_method last v.name) good.selector above)) inside))

module _ (changes : List Change) (end : ℕ) (low : end ≤ 2 ^ 36) (listed : AreListed end 0 (placed_from 0 changes)) where
  inside_pass : (name : MethodName) → nat_lt 0 (length (those_of changes name)) ≡ true → length (versions_in changes name).places < 2 ^ 32
      → Passes places (versions_in changes name).places
  inside_pass name some few =
      let is = places_are changes name in
      let count : length (versions_in changes name).places ≡ length (those_of changes name) = ap length is ∙ length-map (those_of changes name) (λ (p : Placed). p.0) in
      list_passes (λ n. nat_lt 0 n) (λ before. place_above (last_of before)) (versions_in changes name).places few (ap (nat_lt 0) count ∙ some)
      (chain_pass place_above (versions_in changes name).places
      (subst (Chain place_above None) (sym is) (place_chain end low None 0 (those_of changes name) (filter_listed (λ (p : Placed). puts name p.1) end 0 (placed_from 0 changes) listed) tt)))

  -- a method that has versions
  abbrev HasSome : MethodName → Type 0
  HasSome name = nat_lt 0 (length (those_of changes name)) ≡ true

  abbrev named_view : VersionsView → MethodName
  named_view v = v.name

  abbrev IsFirstAbove : Option MethodName → List MethodName → Type 0
  IsFirstAbove last [] = Unit {0}
  IsFirstAbove last (n ∷ ns) = is_above_method last n ≡ true

  next_above : (n : MethodName) (ns : List MethodName) → AllByRecursion (λ m. name_cmp n m ≡ Less) ns → IsFirstAbove (Some n) ns
  next_above n [] all = tt
  next_above n (m ∷ ns) all = above_name n m all.0

  first_above : (ns : List MethodName) → IsFirstAbove None ns
  first_above [] = tt
  first_above (n ∷ ns) = refl

  versions_chain : (last : Option VersionsView) (ns : List MethodName) → IsStrictlySortedBy name_cmp ns → IsFirstAbove (option_map named_view last) ns
      → AllByRecursion HasSome ns
      → AllByRecursion (λ (n : MethodName). length (versions_in changes n).places < 2 ^ 32) ns → Chain (λ o. versions (option_map named_view o)) last (list_map (versions_in changes) ns)
  unfolding IsStrictlySortedBy
  versions_chain last [] sorted first some few = tt
  versions_chain last (n ∷ ns) sorted first some few = (
    versions_pass (option_map named_view last) (versions_in changes n) (put_good end 0 n (placed_from 0 changes) listed some.0) first (inside_pass n some.0 few.0),
    versions_chain (Some (versions_in changes n)) ns sorted.1 (next_above n ns sorted.0) some.1 few.1,
  )

  reversed_length : (ps : List Placed) → length (reverse ps) ≡ length ps
  reversed_length ps = length-reverse ps

  some_each : (names whole : List MethodName) → ((name : MethodName) → is_among name whole ≡ nat_lt 0 (length (versions_of changes name)))
      → ((name : MethodName) → is_among name names ≡ true → is_among name whole ≡ true) → AllByRecursion HasSome names
  some_each [] whole those sub = tt
  some_each (n ∷ names) whole those sub = (
    sym (ap (nat_lt 0) (reversed_length (those_of changes n))) ∙ sym (those n) ∙ sub n (ap (λ b. b || list_any (is_same n) names) (itself n)),
    some_each names whole those (λ name at. sub name (later (is_same name n) (list_any (is_same name) names) at)),
  )
    where
      later : (a b : Bool) → b ≡ true → (a || b) ≡ true
      later true b is = refl
      later false b is = is

  few_each : (names : List MethodName) → All (λ (v : VersionsView). length v.places < 2 ^ 32) (list_map (versions_in changes) names)
      → AllByRecursion (λ (n : MethodName). length (versions_in changes n).places < 2 ^ 32) names
  few_each [] all = tt
  few_each (n ∷ names) all = (
    All-head (λ (v : VersionsView). length v.places < 2 ^ 32) (versions_in changes n) (list_map (versions_in changes) names) all,
    few_each names (All-tail (λ (v : VersionsView). length v.places < 2 ^ 32) (versions_in changes n) (list_map (versions_in changes) names) all),
  )

  pub all_versions_pass : (names : List MethodName) → ArePut changes names → length (list_map (versions_in changes) names) < 2 ^ 32
      → All (λ (v : VersionsView). length v.places < 2 ^ 32) (list_map (versions_in changes) names)
      → Passes all_versions (list_map (versions_in changes) names)
  unfolding all_versions
  all_versions_pass names put few places_few =
      list_passes (λ _. true) versions_behind (list_map (versions_in changes) names) few refl
      (chain_pass (λ o. versions (option_map named_view o)) (list_map (versions_in changes) names)
      (versions_chain None names put.sorted (first_above names) (some_each names names put.those (λ name at. at)) (few_each names places_few)))
