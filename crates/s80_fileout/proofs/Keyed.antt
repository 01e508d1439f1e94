-- Finite maps by names: their entries, and what is found when one is put or taken away.
use Rattle.std.proofs.Common.{◌≡◌, ◌≢◌, inl, inr, ◌≤◌, ◌-◌, ◌∙◌, ◌&&◌, ℕ, zero, suc, Bool, T, cond, true, false, refl, sym, ap, subst, List, [], ◌∷◌, length, map as list_map, Option, Some, None, is_some, true≢false, arith}
use Rattle.std.specs.Str.{bytes_eq}
use Rattle.std.specs.Ordering.{nat_cmp, is_lt}
use Rattle.std.specs.Cmp.{tied_itself}
use Rattle.std.specs.Cmp.Lexicographic.{slice_cmp, nat_list_cmp_total, bytes_decides, texts_ties}
use Rattle.std.specs.FinMap as map
use Rattle.std.specs.FinMap.Entries.{below_all, find, is_sorted}
use Rattle.s80_fileout.proofs.Elements.{IsIn, AreApart, in_mapped, mapped_in, apart_mapped}

abbrev pub Named : Type 0 → Type 0
Named V = map.FinMap {K = List ℕ} (slice_cmp nat_cmp) V

first_of : (a b : Bool) → T (a && b) → T a
first_of true b h = tt
first_of false b h = h

second_of : (a b : Bool) → T (a && b) → T b
second_of true b h = h
second_of false b h = absurd h

pub same_bytes : (x : List ℕ) → bytes_eq x x ≡ true
same_bytes x = (bytes_decides x x).1 refl

pub other_bytes : (x y : List ℕ) → x ≢ y → bytes_eq x y ≡ false
other_bytes x y ne = go (bytes_eq x y) refl
  where
    go : (b : Bool) → bytes_eq x y ≡ b → bytes_eq x y ≡ false
    go true is = absurd (ne ((bytes_decides x y).0 is))
    go false is = is

-- whether or not two names are the same
pub by_bytes : {P : Type 0} (x y : List ℕ) → (x ≡ y → P) → (x ≢ y → P) → P
by_bytes {P} x y same other = go (bytes_eq x y) refl
  where
    go : (b : Bool) → bytes_eq x y ≡ b → P
    go true is = same ((bytes_decides x y).0 is)
    go false is = other (λ e. true≢false (sym ((bytes_decides x y).1 e) ∙ is))

-- whether or not something is found
pub by_found : {V P : Type 0} (o : Option V) → (o ≡ None → P) → ((v : V) → o ≡ Some v → P) → P
by_found {V} {P} o none some = go o refl
  where
    go : (p : Option V) → o ≡ p → P
    go None is = none is
    go (Some v) is = some v is

pub one_value : {V : Type 0} (o : Option V) (v w : V) → o ≡ Some v → o ≡ Some w → v ≡ w
one_value o v w first second = let both : Some v ≡ Some w = sym first ∙ second in cc

pub no_value : {V P : Type 0} (o : Option V) (v : V) → o ≡ None → o ≡ Some v → P
no_value o v none some = absurd (let bad : None ≡ Some v = sym none ∙ some in cc)

module _ {V : Type 0} where
  -- ---- entries

  apart_below : (k : List ℕ) (es : List (List ℕ × V)) → T (below_all (slice_cmp nat_cmp) k es) → (f : List ℕ × V) → IsIn f es → f.0 ≢ k
  apart_below k [] below f at = absurd at
  apart_below k (e ∷ es) below f (inl same) = λ is.
      absurd (subst (λ r. T (is_lt r)) (ap (slice_cmp nat_cmp k) (ap (λ x. x.0) (sym same) ∙ is) ∙ tied_itself nat_list_cmp_total k) (first_of (is_lt (slice_cmp nat_cmp k e.0)) (below_all (slice_cmp nat_cmp) k es) below))
  apart_below k (e ∷ es) below f (inr more) = apart_below k es (second_of (is_lt (slice_cmp nat_cmp k e.0)) (below_all (slice_cmp nat_cmp) k es) below) f more

  sorted_apart : (es : List (List ℕ × V)) → T (is_sorted (slice_cmp nat_cmp) es) → AreApart (λ e. e.0) es
  sorted_apart [] sorted = tt
  sorted_apart (e ∷ es) sorted = (
    apart_below e.0 es (first_of (below_all (slice_cmp nat_cmp) e.0 es) (is_sorted (slice_cmp nat_cmp) es) sorted),
    sorted_apart es (second_of (below_all (slice_cmp nat_cmp) e.0 es) (is_sorted (slice_cmp nat_cmp) es) sorted),
  )

  pub entries_apart : (m : Named V) → AreApart (λ e. e.0) (map.entries m)
  entries_apart m = sorted_apart (map.entries m) (map.entries_sorted m)

  pub keys_apart : (m : Named V) → AreApart (λ k. k) (map.keys m)
  keys_apart m = apart_mapped (λ e. e.0) (λ k. k) (map.entries m) (entries_apart m)

  found_entry : (es : List (List ℕ × V)) (q : List ℕ) (v : V) → find (slice_cmp nat_cmp) q es ≡ Some v → IsIn (q, v) es
  found_entry [] q v is = absurd (let bad : None ≡ Some v = is in cc)
  found_entry (e ∷ es) q v is = by_key (found_entry es q v) (bytes_eq q e.0) refl (ap (λ b. cond b (Some e.1) (find (slice_cmp nat_cmp) q es)) (texts_ties q e.0) ∙ is)
    where
      by_key : (find (slice_cmp nat_cmp) q es ≡ Some v → IsIn (q, v) es) → (b : Bool) → bytes_eq q e.0 ≡ b → cond b (Some e.1) (find (slice_cmp nat_cmp) q es) ≡ Some v → IsIn (q, v) (e ∷ es)
      by_key rest true at here = let keys : q ≡ e.0 = (bytes_decides q e.0).0 at in let values : v ≡ e.1 = cc in inl (λ i. (keys i, values i))
      by_key rest false at more = inr (rest more)

  entry_found : (es : List (List ℕ × V)) (e : List ℕ × V) → AreApart (λ e. e.0) es → IsIn e es → find (slice_cmp nat_cmp) e.0 es ≡ Some e.1
  entry_found [] e apart at = absurd at
  entry_found (f ∷ es) e apart (inl same) =
      ap (λ b. cond b (Some f.1) (find (slice_cmp nat_cmp) e.0 es)) (sym (texts_ties e.0 f.0) ∙ (bytes_decides e.0 f.0).1 (ap (λ x. x.0) same)) ∙ ap (λ x. Some x.1) (sym same)
  entry_found (f ∷ es) e apart (inr more) =
      ap (λ b. cond b (Some f.1) (find (slice_cmp nat_cmp) e.0 es)) (sym (texts_ties e.0 f.0) ∙ other_bytes e.0 f.0 (apart.0 e more)) ∙ entry_found es e apart.1 more

  -- what is found at a key is its entry
  pub got_entry : (m : Named V) (q : List ℕ) (v : V) → map.get m q ≡ Some v → IsIn (q, v) (map.entries m)
  got_entry m q v is = found_entry (map.entries m) q v (sym (map.get-entries m q) ∙ is)

  pub entry_got : (m : Named V) (e : List ℕ × V) → IsIn e (map.entries m) → map.get m e.0 ≡ Some e.1
  entry_got m e at = map.get-entries m e.0 ∙ entry_found (map.entries m) e (entries_apart m) at

  pub got_key : (m : Named V) (q : List ℕ) (v : V) → map.get m q ≡ Some v → IsIn q (map.keys m)
  got_key m q v is = in_mapped (λ e. e.0) (q, v) (map.entries m) (got_entry m q v is)

  pub key_got : (m : Named V) (q : List ℕ) → IsIn q (map.keys m) → (v : V) × (map.get m q ≡ Some v)
  key_got m q at = let e = mapped_in (λ e. e.0) q (map.entries m) at in (e.0.1, ap (map.get m) e.2 ∙ entry_got m e.0 e.1)

  pub contained : (m : Named V) (q : List ℕ) → map.contains_key m q ≡ true → (v : V) × (map.get m q ≡ Some v)
  contained m q has = by_found (map.get m q) (λ none. absurd (true≢false (sym has ∙ ap is_some none))) (λ v is. (v, is))

  pub not_contained : (m : Named V) (q : List ℕ) → map.contains_key m q ≡ false → map.get m q ≡ None
  not_contained m q has = by_found (map.get m q) (λ none. none) (λ v is. absurd (true≢false (sym (ap is_some is) ∙ has)))

  -- two maps that answer alike are equal
  pub same_named : (m n : Named V) → ((q : List ℕ) → map.get m q ≡ map.get n q) → m ≡ n
  same_named m n is = map.same_map nat_list_cmp_total (map.slice_cmp-IsAntisymmetric map.nat_cmp-IsAntisymmetric) m n is

  -- ---- one put, and one taken away

  pub get_put : (m : Named V) (k : List ℕ) (v : V) (q : List ℕ) → map.get (map.insert m k v) q ≡ cond (bytes_eq q k) (Some v) (map.get m q)
  get_put m k v q = map.get-insert nat_list_cmp_total m k v q ∙ ap (λ b. cond b (Some v) (map.get m q)) (sym (texts_ties q k))

  pub get_taken : (m : Named V) (k q : List ℕ) → map.get (map.remove m k) q ≡ cond (bytes_eq q k) None (map.get m q)
  get_taken m k q = map.get-remove nat_list_cmp_total m k q ∙ ap (λ b. cond b None (map.get m q)) (sym (texts_ties q k))

  pub get_put_here : (m : Named V) (k : List ℕ) (v : V) → map.get (map.insert m k v) k ≡ Some v
  get_put_here m k v = get_put m k v k ∙ ap (λ b. cond b (Some v) (map.get m k)) (same_bytes k)

  pub get_put_other : (m : Named V) (k : List ℕ) (v : V) (q : List ℕ) → q ≢ k → map.get (map.insert m k v) q ≡ map.get m q
  get_put_other m k v q ne = get_put m k v q ∙ ap (λ b. cond b (Some v) (map.get m q)) (other_bytes q k ne)

  pub get_taken_here : (m : Named V) (k : List ℕ) → map.get (map.remove m k) k ≡ None
  get_taken_here m k = get_taken m k k ∙ ap (λ b. cond b None (map.get m k)) (same_bytes k)

  pub get_taken_other : (m : Named V) (k q : List ℕ) → q ≢ k → map.get (map.remove m k) q ≡ map.get m q
  get_taken_other m k q ne = get_taken m k q ∙ ap (λ b. cond b None (map.get m q)) (other_bytes q k ne)

  pub put_twice : (m : Named V) (k : List ℕ) (v w : V) → map.insert (map.insert m k v) k w ≡ map.insert m k w
  put_twice m k v w = same_named (map.insert (map.insert m k v) k w) (map.insert m k w) (λ q.
      get_put (map.insert m k v) k w q ∙ ap (cond (bytes_eq q k) (Some w)) (get_put m k v q) ∙ shadowed (bytes_eq q k) (map.get m q) ∙ sym (get_put m k w q))
    where
      shadowed : (b : Bool) (o : Option V) → cond b (Some w) (cond b (Some v) o) ≡ cond b (Some w) o
      shadowed true o = refl
      shadowed false o = refl

  -- ---- how many there are

  len_there : (m : Named V) (k : List ℕ) (v : V) → map.get m k ≡ Some v → map.len m ≡ suc (map.len (map.remove m k))
  len_there m k v is =
      go (map.len m) refl (map.len-remove nat_list_cmp_total m k ∙ ap (λ b. cond b (map.len m - 1) (map.len m)) (ap is_some is))
    where
      go : (n : ℕ) → map.len m ≡ n → map.len (map.remove m k) ≡ map.len m - 1 → map.len m ≡ suc (map.len (map.remove m k))
      go zero none less = no_value (map.get m k) v (ap (λ (x : Named V). map.get x k) (map.empty_of_len m none) ∙ map.get-empty (slice_cmp nat_cmp) k) is
      go (suc n) some less = omega (arith, some, less)

no_more : {W : Type 0} (ks : List (List ℕ)) (n : Named W) → AreApart (λ k. k) ks → ((q : List ℕ) → IsIn q ks → (w : W) × (map.get n q ≡ Some w)) → length ks ≤ map.len n
no_more [] n apart there = omega arith
no_more (k ∷ ks) n apart there =
    let here = there k (inl refl) in
    let rest : length ks ≤ map.len (map.remove n k) = no_more ks (map.remove n k) apart.1 (λ q at. let w = there q (inr at) in (w.0, get_taken_other n k q (apart.0 q at) ∙ w.1)) in
    omega (arith, rest, len_there n k here.0 here.1)

count_keys : {V : Type 0} (es : List (List ℕ × V)) → length (list_map (λ e. e.0) es) ≡ length es
count_keys [] = refl
count_keys (e ∷ es) = ap suc (count_keys es)

-- a map whose keys another has, has no more entries than that
pub no_longer : {V W : Type 0} (m : Named V) (n : Named W) → ((q : List ℕ) (v : V) → map.get m q ≡ Some v → (w : W) × (map.get n q ≡ Some w)) → map.len m ≤ map.len n
no_longer m n there =
    let most : length (map.keys m) ≤ map.len n = no_more (map.keys m) n (keys_apart m) (λ q at. let v = key_got m q at in there q v.0 v.1) in
    omega (arith, most, map.len-entries m, count_keys (map.entries m))
