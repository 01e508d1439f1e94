-- The selectors of the filled slots, and the keys of the map that they show.
use Rattle.std.proofs.Common.{◌≡◌, ◌∙◌, ◌+◌, Bool, true, false, ◌&&◌, refl, sym, ap, ap₂, subst, List, [], ◌∷◌, ◌++◌, map as list_map, get_or, Option, Some, None, Ordering, is_some, true≢false, Bor, arith}
use Rattle.std.specs.Prelude.{T}
use Rattle.std.specs.List.{IsDistinct, AllByRecursion}
use Rattle.std.specs.List.Sorted.{IsSorted, IsPermutation, IsStrictlySortedBy}
use Rattle.std.specs.Str.{bytes_eq}
use Rattle.std.specs.Ordering.{is_lt, is_eq, eq_by_cmp, ordering_reverse}
use Rattle.std.specs.declared.cmp.Ordering.TheVariants.{Less, Equal, Greater}
use Rattle.std.specs.Map.{keys_of}
use Rattle.std.specs.Map.Iter.{deref_pair}
use Rattle.std.specs.FinMap as map
use Rattle.std.specs.FinMap.Entries.{is_some-find, is_sorted, below_all}
use Rattle.std.proofs.Math.ListN.{get_or-map, length-map}
use Rattle.std.proofs.lemmas.Cmp.{nat_list_eq_equiv}
use Rattle.std.proofs.lemmas.List.{map-append, append-nil}
use Rattle.std.proofs.lemmas.List.Sorted.{IsPermutation-map, list_any-IsPermutation}
use Rattle.std.proofs.lemmas.Map.Keys.{IsDistinct-IsPermutation, apart_from_distinct, sorted_from_all_adjacent}
use Rattle.std.proofs.lemmas.Map.Lookups.{btree_set_from_contains, exact_bytes}
use Rattle.s80_dict.specs.Dict.{Bytes}
use Rattle.s80_dict.specs.declared.dict.MethodEntry.{MethodEntry}
use Rattle.s80_dict.specs.Slots.{DictValue, room_of, same_bytes, filled, filled_with, methods_of, selectors_of}
use Rattle.s80_dict.proofs.SlotLemmas.{R, o, Key, Slots, tests_agree}

abbrev pub shown : List (Bor Bytes) → List Bytes
shown xs = list_map (λ s. s.now) xs

-- ---- the filled slots, one after another

chosen : {X : Type 0} → Bytes → Option X → List Bytes
chosen k None = []
chosen k (Some v) = k ∷ []

module _ {X : Type 0} where
  grows : (k : Bytes) (x : Option X) (es fs : List (Bytes × X)) (more : List Bytes) → list_map (λ e. e.0) fs ≡ list_map (λ e. e.0) es ++ more
      → list_map (λ e. e.0) (filled_with k x fs) ≡ list_map (λ e. e.0) (filled_with k x es) ++ more
  grows k None es fs more h = h
  grows k (Some v) es fs more h = ap (λ rest. k ∷ rest) h

  ends : (k : Bytes) (x : Option X) → list_map (λ e. e.0) (filled_with k x []) ≡ chosen k x
  unfolding chosen
  ends k None = refl
  ends k (Some v) = refl

  selectors_push : (es : Slots X) (e : Key × Option X) → selectors_of (es ++ e ∷ []) ≡ selectors_of es ++ chosen e.0.items e.1
  selectors_push [] e = ends e.0.items e.1
  selectors_push (f ∷ es) e = grows f.0.items f.1 (filled es) (filled (es ++ e ∷ [])) (chosen e.0.items e.1) (selectors_push es e)

  chosen_some : (k : Bytes) (x : Option X) → true ≡ is_some x → k ∷ [] ≡ chosen k x
  unfolding chosen
  chosen_some k None e = absurd (true≢false e)
  chosen_some k (Some v) e = refl

  chosen_none : (k : Bytes) (x : Option X) (xs : List Bytes) → false ≡ is_some x → xs ≡ xs ++ chosen k x
  unfolding chosen
  chosen_none k None xs e = sym (append-nil xs)
  chosen_none k (Some v) xs e = absurd (true≢false (sym e))

  module _ (done : List (Bor Bytes)) (ys : List (Bor Key × Bor (Option X))) (k : Bor Key) (v : Bor (Option X)) (h : shown done ≡ selectors_of (list_map deref_pair ys)) where
    after : selectors_of (list_map deref_pair (ys ++ (k, v) ∷ [])) ≡ selectors_of (list_map deref_pair ys) ++ chosen k.now.items v.now
    after = ap selectors_of (map-append deref_pair ys ((k, v) ∷ [])) ∙ selectors_push (list_map deref_pair ys) (deref_pair (k, v))

    pub one_taken : (x : Bor Bytes) → x.now ≡ k.now.items → true ≡ is_some v.now → shown (done ++ x ∷ []) ≡ selectors_of (list_map deref_pair (ys ++ (k, v) ∷ []))
    one_taken x key some = map-append (λ s. s.now) done (x ∷ [])
        ∙ ap₂ (λ a b. a ++ b) h (ap (λ b. b ∷ []) key ∙ chosen_some k.now.items v.now some) ∙ sym after

    pub one_passed : false ≡ is_some v.now → shown done ≡ selectors_of (list_map deref_pair (ys ++ (k, v) ∷ []))
    one_passed none = h ∙ chosen_none k.now.items v.now _ none ∙ sym after

  -- ---- the selectors in order

  apart_filled : (k : Key) (es : Slots X) → AllByRecursion (λ y. same_bytes k y ≡ false) (keys_of es) → AllByRecursion (λ y. bytes_eq k.items y ≡ false) (selectors_of es)
  apart_filled k [] all = tt
  apart_filled k (e ∷ es) all =
      elim e.1 as (λ (x : Option X). AllByRecursion (λ y. bytes_eq k.items y ≡ false) (list_map (λ f. f.0) (filled_with e.0.items x (filled es)))) [
        | None ↦ apart_filled k es all.1
        | Some v ↦ (all.0, apart_filled k es all.1)
      ]

  distinct_filled : (es : Slots X) → IsDistinct same_bytes (keys_of es) → IsDistinct bytes_eq (selectors_of es)
  unfolding IsDistinct
  distinct_filled [] distinct = tt
  distinct_filled (e ∷ es) distinct =
      elim e.1 as (λ (x : Option X). IsDistinct bytes_eq (list_map (λ f. f.0) (filled_with e.0.items x (filled es)))) [
        | None ↦ distinct_filled es distinct.1
        | Some v ↦ (apart_filled e.0 es distinct.0, distinct_filled es distinct.1)
      ]

first : (a b : Bool) → T (a && b) → T a
first true b p = tt
first false b p = p

second : (a b : Bool) → T (a && b) → T b
second true b p = p
second false b p = absurd p

less : (r : Ordering) → T (is_lt r) → r ≡ Less
less Less p = refl
less Equal p = absurd p
less Greater p = absurd p

module _ {X : Type 0} where
  below_keys : (x : Bytes) (es : List (Bytes × X)) → T (below_all R x es) → AllByRecursion (λ y. R x y ≡ Less) (list_map (λ e. e.0) es)
  below_keys x [] h = tt
  below_keys x (e ∷ es) h = (less _ (first _ _ h), below_keys x es (second _ _ h))

  keys_rise : (es : List (Bytes × X)) → T (is_sorted R es) → IsStrictlySortedBy R (list_map (λ e. e.0) es)
  unfolding IsStrictlySortedBy
  keys_rise [] h = tt
  keys_rise (e ∷ es) h = (below_keys e.0 es (first _ _ h), keys_rise es (second _ _ h))

less_from : (x y : Bytes) → is_lt (R y x) ≡ false → bytes_eq x y ≡ false → R x y ≡ Less
less_from x y up apart =
    elim (R x y) as (λ r. R x y ≡ r → r ≡ Less) [
      | Less ↦ λ _. refl
      | Equal ↦ λ e. absurd (true≢false (ap is_eq (sym e) ∙ sym (tests_agree x y) ∙ apart))
      | Greater ↦ λ e. absurd (true≢false (ap is_lt (sym (o.antisymm y x ∙ ap ordering_reverse e)) ∙ up))
    ] refl

rises : (ys : List (Bor Bytes)) → IsSorted (λ (x y : Bor Bytes). R x.now y.now) ys → IsDistinct bytes_eq (shown ys) → IsStrictlySortedBy R (shown ys)
unfolding IsStrictlySortedBy
rises [] up distinct = tt
rises (y ∷ ys) up distinct =
    let all = shown (y ∷ ys) in
    sorted_from_all_adjacent o all y.now (λ k within. less_from (get_or all k y.now) (get_or all (k + 1) y.now)
    (ap₂ (λ (a b : Bytes). is_lt (R a b)) (get_or-map (λ (s : Bor Bytes). s.now) (y ∷ ys) (k + 1) y) (get_or-map (λ (s : Bor Bytes). s.now) (y ∷ ys) k y)
    ∙ up k y (omega arith) (omega (arith, length-map (y ∷ ys) (λ (s : Bor Bytes). s.now))))
    (apart_from_distinct bytes_eq all k (k + 1) y.now distinct (omega arith) within))

pub sorted_is : {X : Type 0} (es : Slots X) (xs ys : List (Bor Bytes)) → IsDistinct same_bytes (keys_of es) → shown xs ≡ selectors_of es → IsPermutation xs ys
    → IsSorted (λ (x y : Bor Bytes). R x.now y.now) ys → shown ys ≡ map.keys (methods_of es)
sorted_is es xs ys distinct are moved up =
    let moves : IsPermutation (selectors_of es) (shown ys) = subst (λ (ks : List Bytes). IsPermutation ks (shown ys)) are (IsPermutation-map (λ s. s.now) xs ys moved) in
    let apart : IsDistinct bytes_eq (shown ys) = IsDistinct-IsPermutation bytes_eq (λ x y. nat_list_eq_equiv.symm x y) (selectors_of es) (shown ys) moves (distinct_filled es distinct) in
    btree_set_from_contains o (record { keys = shown ys }) (record { keys = map.keys (methods_of es) }) (rises ys up apart) (keys_rise _ (map.entries_sorted (methods_of es)))
    (λ q. sym (list_any-IsPermutation (eq_by_cmp R q) (selectors_of es) (shown ys) moves) ∙ sym (is_some-find R q (filled es))
    ∙ sym (ap is_some (map.get-from_entries o (filled es) q)) ∙ map.contains_key-keys (methods_of es) q) exact_bytes

pub keys_are : {C : Type 0} (es : Slots (MethodEntry C)) (d : DictValue (MethodEntry C)) (shows : record { methods = methods_of es; room = room_of es } ≡ d) (xs ys : List (Bor Bytes))
    → IsDistinct same_bytes (keys_of es) → shown xs ≡ selectors_of es → IsPermutation xs ys → IsSorted (λ (x y : Bor Bytes). R x.now y.now) ys → shown ys ≡ map.keys d.methods
keys_are {C} es d shows xs ys distinct are moved up = sorted_is es xs ys distinct are moved up ∙ ap (λ (m : DictValue (MethodEntry C)). map.keys m.methods) shows
