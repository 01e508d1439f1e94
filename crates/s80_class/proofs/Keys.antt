-- Names that rise: the place of a name, and the keys of a map after a change.
use Rattle.std.proofs.Common.{◌≡◌, ◌≢◌, ◌≤◌, ◌<◌, ◌∙◌, ◌||◌, ◌&&◌, T, ◌+◌, inl, inr, ℕ, suc, zero, Bool, cond, true, false, refl, sym, ap, ap₂, List, [], ◌∷◌, length, get_or, slice_get, map as list_map, Option, Some, None, is_some, true≢false, arith}
use Rattle.std.specs.List.{list_any, insert, remove}
use Rattle.std.specs.Str.{bytes_eq}
use Rattle.std.specs.Ordering.{nat_cmp, eq_by_cmp, is_lt, is_eq, ordering_reverse}
use Rattle.std.specs.declared.cmp.Ordering.{Ordering}
use Rattle.std.specs.declared.cmp.Ordering.TheVariants.{Less, Equal, Greater}
use Rattle.std.specs.Cmp.{tied_itself}
use Rattle.std.specs.Cmp.Lexicographic.{slice_cmp, nat_list_cmp_total, bytes_decides, texts_ties}
use Rattle.std.specs.FinMap as map
use Rattle.std.specs.FinMap.Entries.{below_all}
use Rattle.std.proofs.lemmas.Bool.{cases_lt}
use Rattle.std.proofs.lemmas.List.Edits.{get_or-insert_at, length-insert}
use Rattle.std.proofs.lemmas.List.{length-map}
use Rattle.std.proofs.lemmas.Option.{slice_get_within, slice_get-get_or}
use Rattle.s80_class.specs.Classes.{Name, ClassRow, Classes}
use Rattle.s80_class.specs.Kept.{is_below, IsRising, IsPlace}
use Rattle.s80_class.proofs.lemmas.Lines.{Entry, get-inserted, get-removed}

abbrev R : Name → Name → Ordering
R = slice_cmp nat_cmp

first_of : (a b : Bool) → T (a && b) → T a
first_of true b h = tt
first_of false b h = h

second_of : (a b : Bool) → T (a && b) → T b
second_of true b h = h
second_of false b h = absurd h

is_true : (a : Bool) → T a → a ≡ true
is_true true h = refl
is_true false h = absurd h

abbrev keys_in : {V : Type 0} → List (Name × V) → List Name
keys_in es = list_map (λ e. e.0) es

module _ {V : Type 0} where
  below_at : (x : Name) (es : List (Name × V)) → T (below_all R x es) → (j : ℕ) → j < length es → is_below x (get_or (keys_in es) j []) ≡ true
  below_at x [] h j lt = absurd (omega arith)
  below_at x (e ∷ es) h zero lt = is_true _ (first_of _ _ h)
  below_at x (e ∷ es) h (suc j) lt = below_at x es (second_of _ _ h) j (omega arith)

  rising : (es : List (Name × V)) → T (map.is_sorted R es) → IsRising (keys_in es)
  rising [] h i j lt within = absurd (omega arith)
  rising (e ∷ es) h i zero lt within = absurd (omega arith)
  rising (e ∷ es) h zero (suc j) lt within = below_at e.0 es (first_of _ _ h) j (omega (arith, length-map es (λ (x : Name × V). x.0)))
  rising (e ∷ es) h (suc i) (suc j) lt within = rising es (second_of _ _ h) i j (omega arith) (omega arith)

  pub keys_rise : (m : map.FinMap {K = Name} R V) → IsRising (map.keys m)
  keys_rise m = rising (map.entries m) (map.entries_sorted m)

-- ---- one place

not_below_itself : (q : Name) → is_below q q ≡ false
not_below_itself q = ap is_lt (tied_itself nat_list_cmp_total q)

-- names that rise are there once
pub one_place : (ks : List Name) (i j : ℕ) (q : Name) → IsRising ks → slice_get ks i ≡ Some q → slice_get ks j ≡ Some q → i ≡ j
one_place ks i j q rises a b = elim (cases_lt i j) [
  | inl lt ↦ absurd (apart i j a b lt)
  | inr ge ↦ elim (cases_lt j i) [
    | inl lt ↦ absurd (apart j i b a lt)
    | inr le ↦ omega arith
  ]
]
  where
    here : (k : ℕ) → slice_get ks k ≡ Some q → get_or ks k [] ≡ q
    here k at = let same : Some (get_or ks k []) ≡ Some q = sym (slice_get-get_or ks k [] (slice_get_within ks k q at)) ∙ at in cc

    apart : (k l : ℕ) → slice_get ks k ≡ Some q → slice_get ks l ≡ Some q → k < l → ⊥
    apart k l at there lt =
        true≢false (sym (rises k l lt (slice_get_within ks l q there)) ∙ ap₂ is_below (here k at) (here l there) ∙ not_below_itself q)

is_less : (r : Ordering) → is_lt r ≡ true → r ≡ Less
is_less Less e = refl
is_less Equal e = absurd (true≢false (sym e))
is_less Greater e = absurd (true≢false (sym e))

pub below_trans : (a b c : Name) → is_below a b ≡ true → is_below b c ≡ true → is_below a c ≡ true
below_trans a b c h g = ap is_lt (nat_list_cmp_total.trans a b c (is_less _ h) (is_less _ g))

-- a name that is there stands at its place
pub present_place : (ks : List Name) (q : Name) (p k : ℕ) → IsRising ks → IsPlace ks q p → k < length ks → get_or ks k [] ≡ q → p ≡ k
present_place ks q p k rises place within is =
    elim (cases_lt k p) as (λ _. p ≡ k) [
      | inl before ↦ absurd (true≢false (sym (place.below k before) ∙ ap (λ x. is_below x q) is ∙ not_below_itself q))
      | inr after ↦ elim (cases_lt p k) as (λ _. p ≡ k) [
        | inl lower ↦ absurd (true≢false (sym (ap (is_below (get_or ks p [])) (sym is) ∙ rises p k lower within) ∙ place.above p (omega arith) (omega arith)))
        | inr same ↦ omega arith
      ]
    ]

pub any_at : (t : Name → Bool) (ks : List Name) → list_any t ks ≡ true → (k : ℕ) × (k < length ks) × (t (get_or ks k []) ≡ true)
any_at t [] h = absurd (true≢false (sym h))
any_at t (x ∷ ks) h = elim (t x) as (λ b. t x ≡ b → (b || list_any t ks) ≡ true → (k : ℕ) × (k < length (x ∷ ks)) × (t (get_or (x ∷ ks) k []) ≡ true)) [
  | true ↦ λ is _. (0, omega arith, is)
  | false ↦ λ _ h'. let r = any_at t ks h' in (suc r.0, omega (arith, r.1), r.2)
] refl h

-- the name of a class is among the keys
pub key_of_class : (m : Classes) (q : Name) (row : ClassRow) → map.get m q ≡ Some row → (k : ℕ) × (k < length (map.keys m)) × (get_or (map.keys m) k [] ≡ q)
key_of_class m q row is =
    let found : list_any (eq_by_cmp R q) (map.keys m) ≡ true = sym (map.contains_key-keys m q) ∙ ap is_some is in
    let at = any_at (eq_by_cmp R q) (map.keys m) found in
    (at.0, at.1, sym ((bytes_decides q (get_or (map.keys m) at.0 [])).0 (texts_ties q (get_or (map.keys m) at.0 []) ∙ at.2)))

-- no name at the place is this one, so no class has it
pub no_key : (m : Classes) (q : Name) (p : ℕ) → IsPlace (map.keys m) q p → (p < length (map.keys m) → get_or (map.keys m) p [] ≢ q) → map.get m q ≡ None
no_key m q p place differs = go (map.get m q) refl
  where
    go : (o : Option ClassRow) → map.get m q ≡ o → map.get m q ≡ None
    go None is = is
    go (Some row) is =
        let at = key_of_class m q row is in
        let same : p ≡ at.0 = present_place (map.keys m) q p at.0 (keys_rise m) place at.1 at.2 in
        absurd (differs (omega (arith, same, at.1)) (ap (λ k. get_or (map.keys m) k []) same ∙ at.2))

-- each name has a place
pub place_of : (ks : List Name) (q : Name) → IsRising ks → (p : ℕ) × IsPlace ks q p
place_of [] q rises = (0, record { within = omega arith; below = λ k lt. absurd (omega arith); above = λ k le lt. absurd (omega arith) })
place_of (x ∷ ks) q rises =
    elim (is_below x q) as (λ b. is_below x q ≡ b → (p : ℕ) × IsPlace (x ∷ ks) q p) [
      | true ↦ λ is.
          let r = place_of ks q (λ i j lt within. rises (suc i) (suc j) (omega arith) (omega arith)) in
          (suc r.0, record { within = omega (arith, r.1.within); below = below_on r.0 r.1 is; above = above_on r.0 r.1 })
      | false ↦ λ is. (0, record { within = omega arith; below = λ k lt. absurd (omega arith); above = above_first is })
    ] refl
  where
    below_on : (p : ℕ) → IsPlace ks q p → is_below x q ≡ true → (k : ℕ) → k < suc p → is_below (get_or (x ∷ ks) k []) q ≡ true
    below_on p r is zero lt = is
    below_on p r is (suc k) lt = r.below k (omega arith)

    above_on : (p : ℕ) → IsPlace ks q p → (k : ℕ) → suc p ≤ k → k < length (x ∷ ks) → is_below (get_or (x ∷ ks) k []) q ≡ false
    above_on p r zero le lt = absurd (omega arith)
    above_on p r (suc k) le lt = r.above k (omega arith) (omega arith)

    above_first : is_below x q ≡ false → (k : ℕ) → 0 ≤ k → k < length (x ∷ ks) → is_below (get_or (x ∷ ks) k []) q ≡ false
    above_first is zero le lt = is
    above_first is (suc k) le lt = go (is_below (get_or ks k []) q) refl
      where
        go : (b : Bool) → is_below (get_or ks k []) q ≡ b → is_below (get_or ks k []) q ≡ false
        go false e = e
        go true e = absurd (true≢false (sym (below_trans x (get_or ks k []) q (rises 0 (suc k) (omega arith) lt) e) ∙ is))

-- ---- the keys after a change

other_side : (a k : Name) → is_below a k ≡ false → a ≢ k → R k a ≡ Less
other_side a k h ne = go (R a k) refl
  where
    go : (r : Ordering) → R a k ≡ r → R k a ≡ Less
    go Less e = absurd (true≢false (sym (ap is_lt e) ∙ h))
    go Equal e = absurd (ne (map.slice_cmp-IsAntisymmetric map.nat_cmp-IsAntisymmetric a k e))
    go Greater e = nat_list_cmp_total.antisymm k a ∙ ap ordering_reverse e

turned_less : (a k : Name) → is_below a k ≡ true → R k a ≡ Greater
turned_less a k h = nat_list_cmp_total.antisymm k a ∙ ap ordering_reverse (is_less (R a k) h)

place_tail : (x : Name) (ks : List Name) (q : Name) (p : ℕ) → IsPlace (x ∷ ks) q (suc p) → IsPlace ks q p
place_tail x ks q p place = record {
  within = omega (arith, place.within);
  below = λ k lt. place.below (suc k) (omega arith);
  above = λ k le lt. place.above (suc k) (omega arith) (omega arith);
}

keys-put_new : (es : List Entry) (k : Name) (v : ClassRow) (p : ℕ) → IsPlace (keys_in es) k p → ((j : ℕ) → j < length (keys_in es) → get_or (keys_in es) j [] ≢ k)
    → keys_in (map.put R k v es) ≡ insert (keys_in es) p k
keys-put_new [] k v zero place none = refl
keys-put_new [] k v (suc p) place none = absurd (omega (arith, place.within))
keys-put_new (e ∷ es) k v zero place none =
    let less : R k e.0 ≡ Less = other_side e.0 k (place.above 0 (omega arith) (omega arith)) (none 0 (omega arith)) in
    rw less refl
keys-put_new (e ∷ es) k v (suc p) place none =
    let greater : R k e.0 ≡ Greater = turned_less e.0 k (place.below 0 (omega arith)) in
    let rest = keys-put_new es k v p (place_tail e.0 (keys_in es) k p place) (λ j lt. none (suc j) (omega arith)) in
    rw greater (ap (λ (xs : List Name). e.0 ∷ xs) rest)

keys-put_old : (es : List Entry) (k : Name) (v : ClassRow) (p : ℕ) → p < length (keys_in es) → get_or (keys_in es) p [] ≡ k → ((j : ℕ) → j < p → is_below (get_or (keys_in es) j []) k ≡ true)
    → keys_in (map.put R k v es) ≡ keys_in es
keys-put_old [] k v p lt is below = absurd (omega arith)
keys-put_old (e ∷ es) k v zero lt is below =
    let equal : R k e.0 ≡ Equal = ap (R k) is ∙ tied_itself nat_list_cmp_total k in
    rw equal refl
keys-put_old (e ∷ es) k v (suc p) lt is below =
    let greater : R k e.0 ≡ Greater = turned_less e.0 k (below 0 (omega arith)) in
    let rest = keys-put_old es k v p (omega arith) is (λ j l. below (suc j) (omega arith)) in
    rw greater (ap (λ (xs : List Name). e.0 ∷ xs) rest)

pub keys-insert_new : (m : Classes) (k : Name) (v : ClassRow) (p : ℕ) → map.get m k ≡ None → IsPlace (map.keys m) k p → map.keys (map.insert m k v) ≡ insert (map.keys m) p k
keys-insert_new m k v p none place =
    ap keys_in (map.entries-insert nat_list_cmp_total m k v) ∙ keys-put_new (map.entries m) k v p place (λ j lt is.
    let found : list_any (eq_by_cmp R k) (map.keys m) ≡ true = any_here (map.keys m) j lt is in
    true≢false (sym (map.contains_key-keys m k ∙ found) ∙ ap is_some none))
  where
    any_here : (ks : List Name) (j : ℕ) → j < length ks → get_or ks j [] ≡ k → list_any (eq_by_cmp R k) ks ≡ true
    any_here [] j lt is = absurd (omega arith)
    any_here (x ∷ ks) zero lt is = ap (λ b. b || list_any (eq_by_cmp R k) ks) (ap (eq_by_cmp R k) is ∙ ap is_eq (tied_itself nat_list_cmp_total k))
    any_here (x ∷ ks) (suc j) lt is = elim (eq_by_cmp R k x) as (λ b. (b || list_any (eq_by_cmp R k) ks) ≡ true) [ true ↦ refl | false ↦ any_here ks j (omega arith) is ]

pub keys-insert_old : (m : Classes) (k : Name) (v row : ClassRow) → map.get m k ≡ Some row → map.keys (map.insert m k v) ≡ map.keys m
keys-insert_old m k v row is =
    let at = key_of_class m k row is in
    let below : (j : ℕ) → j < at.0 → is_below (get_or (map.keys m) j []) k ≡ true = λ j lt. ap (is_below (get_or (map.keys m) j [])) (sym at.2) ∙ keys_rise m j at.0 lt at.1 in
    ap keys_in (map.entries-insert nat_list_cmp_total m k v) ∙ keys-put_old (map.entries m) k v at.0 at.1 at.2 below

put_back : (m : Classes) (k : Name) (row : ClassRow) → map.get m k ≡ Some row → map.insert (map.remove m k) k row ≡ m
put_back m k row is = map.same_map nat_list_cmp_total (map.slice_cmp-IsAntisymmetric map.nat_cmp-IsAntisymmetric) _ _ (λ q.
    elim (bytes_eq q k) as (λ b. bytes_eq q k ≡ b → map.get (map.insert (map.remove m k) k row) q ≡ map.get m q) [
      | true ↦ λ t. let same : q ≡ k = (bytes_decides q k).0 t in
          get-inserted (map.remove m k) k row q ∙ ap (λ b. cond b (Some row) (map.get (map.remove m k) q)) t ∙ sym is ∙ ap (map.get m) (sym same)
      | false ↦ λ t.
          get-inserted (map.remove m k) k row q ∙ ap (λ b. cond b (Some row) (map.get (map.remove m k) q)) t
          ∙ get-removed m k q ∙ ap (λ b. cond b None (map.get m q)) t
    ] refl)

remove-insert : (ks : List Name) (p : ℕ) (k : Name) → p ≤ length ks → remove (insert ks p k) p ≡ ks
remove-insert ks zero k le = refl
remove-insert [] (suc p) k le = absurd (omega arith)
remove-insert (x ∷ ks) (suc p) k le = ap (λ (xs : List Name). x ∷ xs) (remove-insert ks p k (omega arith))

pub keys-remove : (m : Classes) (k : Name) (row : ClassRow) (p : ℕ) → map.get m k ≡ Some row → IsPlace (map.keys m) k p → map.keys (map.remove m k) ≡ remove (map.keys m) p
keys-remove m k row p is place =
    let less : Classes = map.remove m k in
    let gone : map.get less k ≡ None = get-removed m k k ∙ ap (λ b. cond b None (map.get m k)) ((bytes_decides k k).1 refl) in
    let r = place_of (map.keys less) k (keys_rise less) in
    let grown : map.keys m ≡ insert (map.keys less) r.0 k = ap map.keys (sym (put_back m k row is)) ∙ keys-insert_new less k row r.0 gone r.1 in
    let here : get_or (map.keys m) r.0 [] ≡ k = ap (λ (ks : List Name). get_or ks r.0 []) grown ∙ get_or-insert_at (map.keys less) r.0 k [] r.1.within in
    let longer : length (map.keys m) ≡ length (map.keys less) + 1 = ap length grown ∙ length-insert (map.keys less) r.0 k r.1.within in
    let same : p ≡ r.0 = present_place (map.keys m) k p r.0 (keys_rise m) place (omega (arith, longer, r.1.within)) here in
    sym (ap (λ (ks : List Name). remove ks p) grown ∙ ap (λ i. remove (insert (map.keys less) r.0 k) i) same ∙ remove-insert (map.keys less) r.0 k r.1.within)
