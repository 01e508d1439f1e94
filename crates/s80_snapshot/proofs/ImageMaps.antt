-- Finite maps by names: what is found when one is put, how many there are, and lists of entries in order.
use Rattle.std.proofs.Common.{◌≡◌, ◌≢◌, ◌≤◌, ◌-◌, ◌+◌, ◌∙◌, ◌&&◌, ◌||◌, ◌∷◌, ℕ, zero, suc, Bool, T, cond, true, false, refl, sym, ap, subst, List, [], length, map as list_map, Option, Some, None, is_some, option_map, slice_get, true≢false, arith}
use Rattle.std.specs.Str.{bytes_eq}
use Rattle.std.specs.List.{AllByRecursion, list_any}
use Rattle.std.specs.List.Sorted.{IsStrictlySortedBy}
use Rattle.std.specs.Ordering.{nat_cmp, is_lt, is_eq, eq_by_cmp, ordering_reverse}
use Rattle.std.specs.declared.cmp.Ordering.{Ordering}
use Rattle.std.specs.declared.cmp.Ordering.TheVariants.{Less, Equal, Greater}
use Rattle.std.specs.Cmp.{tied_itself}
use Rattle.std.specs.Cmp.Lexicographic.{slice_cmp, nat_list_cmp_total, bytes_decides, texts_ties}
use Rattle.std.specs.FinMap as map
use Rattle.std.specs.FinMap.Entries.{below_all, by_order, find, is_sorted, put}
use Rattle.s80_dict.specs.Dict.{Methods}
use Rattle.s80_apply.specs.Seen.{AreSeen}

abbrev pub Text : Type 0
Text = List ℕ

abbrev pub Named : Type 0 → Type 0
Named V = map.FinMap {K = Text} (slice_cmp nat_cmp) V

abbrev pub order : Text → Text → Ordering
order = slice_cmp nat_cmp

first_of : (a b : Bool) → T (a && b) → T a
first_of true b h = tt
first_of false b h = h

second_of : (a b : Bool) → T (a && b) → T b
second_of true b h = h
second_of false b h = absurd h

pub same_bytes : (x : Text) → bytes_eq x x ≡ true
same_bytes x = (bytes_decides x x).1 refl

pub other_bytes : (x y : Text) → x ≢ y → bytes_eq x y ≡ false
other_bytes x y ne = go (bytes_eq x y) refl
  where
    go : (b : Bool) → bytes_eq x y ≡ b → bytes_eq x y ≡ false
    go true is = absurd (ne ((bytes_decides x y).0 is))
    go false is = is

pub unlike : (x y : Text) → bytes_eq x y ≡ false → x ≢ y
unlike x y is e = true≢false (sym ((bytes_decides x y).1 e) ∙ is)

-- whether or not two names are the same
pub by_bytes : {P : Type 0} (x y : Text) → (x ≡ y → P) → (x ≢ y → P) → P
by_bytes {P} x y same other = go (bytes_eq x y) refl
  where
    go : (b : Bool) → bytes_eq x y ≡ b → P
    go true is = same ((bytes_decides x y).0 is)
    go false is = other (unlike x y is)

-- whether or not something is found
pub by_found : {V P : Type 0} (o : Option V) → (o ≡ None → P) → ((v : V) → o ≡ Some v → P) → P
by_found {V} {P} o none some = go o refl
  where
    go : (p : Option V) → o ≡ p → P
    go None is = none is
    go (Some v) is = some v is

pub one_value : {V : Type 0} (o : Option V) (v w : V) → o ≡ Some v → o ≡ Some w → v ≡ w
one_value o v w first second = let both : Some v ≡ Some w = sym first ∙ second in cc

-- one number has one name
pub one_named : (o : Option (Option Text)) (a b : Text) → o ≡ Some (Some a) → o ≡ Some (Some b) → a ≡ b
one_named o a b first second = let both : Some (Some a) ≡ Some (Some b) = sym first ∙ second in cc

pub no_value : {V P : Type 0} (o : Option V) (v : V) → o ≡ None → o ≡ Some v → P
no_value o v none some = absurd (let bad : None ≡ Some v = sym none ∙ some in cc)

pub no_such : {V P : Type 0} (o : Option V) → o ≡ None → is_some o ≡ true → P
no_such o none some = absurd (true≢false (sym some ∙ ap is_some none))

pub contained : {V : Type 0} (o : Option V) → is_some o ≡ true → (v : V) × (o ≡ Some v)
contained None has = absurd (true≢false (sym has))
contained (Some v) has = (v, refl)

module _ {V : Type 0} where
  -- two maps that answer alike are equal
  pub same_named : (m n : Named V) → ((q : Text) → map.get m q ≡ map.get n q) → m ≡ n
  same_named m n is = map.same_map nat_list_cmp_total (map.slice_cmp-IsAntisymmetric map.nat_cmp-IsAntisymmetric) m n is

  pub get_put : (m : Named V) (k : Text) (v : V) (q : Text) → map.get (map.insert m k v) q ≡ cond (bytes_eq q k) (Some v) (map.get m q)
  get_put m k v q = map.get-insert nat_list_cmp_total m k v q ∙ ap (λ b. cond b (Some v) (map.get m q)) (sym (texts_ties q k))

  pub get_put_here : (m : Named V) (k : Text) (v : V) → map.get (map.insert m k v) k ≡ Some v
  get_put_here m k v = get_put m k v k ∙ ap (λ b. cond b (Some v) (map.get m k)) (same_bytes k)

  pub get_put_other : (m : Named V) (k : Text) (v : V) (q : Text) → q ≢ k → map.get (map.insert m k v) q ≡ map.get m q
  get_put_other m k v q ne = get_put m k v q ∙ ap (λ b. cond b (Some v) (map.get m q)) (other_bytes q k ne)

  get_taken : (m : Named V) (k q : Text) → map.get (map.remove m k) q ≡ cond (bytes_eq q k) None (map.get m q)
  get_taken m k q = map.get-remove nat_list_cmp_total m k q ∙ ap (λ b. cond b None (map.get m q)) (sym (texts_ties q k))

  -- ---- how many there are

  shorter : (m : Named V) (k : Text) → map.len m ≤ suc (map.len (map.remove m k))
  shorter m k = go (map.contains_key m k) (map.len-remove nat_list_cmp_total m k)
    where
      go : (b : Bool) → map.len (map.remove m k) ≡ cond b (map.len m - 1) (map.len m) → map.len m ≤ suc (map.len (map.remove m k))
      go true is = omega (arith, is)
      go false is = omega (arith, is)

  -- a map all of whose keys stand in a list has no more entries than that
  pub no_longer : {X : Type 0} (es : List (Text × X)) (m : Named V) → ((q : Text) (v : V) → map.get m q ≡ Some v → is_some (find order q es) ≡ true) → map.len m ≤ length es
  no_longer [] m there =
      let none : m ≡ map.empty = same_named m map.empty (λ q. by_found (map.get m q) (λ absent. absent ∙ sym (map.get-empty order q)) (λ v is. absurd (true≢false (sym (there q v is))))) in
      omega (arith, ap (λ (x : Named V). map.len x) none, map.len-empty order V)
  no_longer (e ∷ es) m there =
      let rest : map.len (map.remove m e.0) ≤ length es = no_longer es (map.remove m e.0) (λ q v is. later q v is (bytes_eq q e.0) refl) in
      omega (arith, rest, shorter m e.0)
    where
      later : (q : Text) (v : V) → map.get (map.remove m e.0) q ≡ Some v → (b : Bool) → bytes_eq q e.0 ≡ b → is_some (find order q es) ≡ true
      later q v is true same = absurd (let bad : None ≡ Some v = sym (get_taken m e.0 q ∙ ap (λ b. cond b None (map.get m q)) same) ∙ is in cc)
      later q v is false differs =
          ap (λ b. is_some (cond b (Some e.1) (find order q es))) (sym (sym (texts_ties q e.0) ∙ differs))
          ∙ there q v (sym (get_taken m e.0 q ∙ ap (λ b. cond b None (map.get m q)) differs) ∙ is)

-- ---- lists in order

is_less : (o : Ordering) → o ≡ Less → T (is_lt o)
is_less Less e = tt
is_less Equal e = absurd (true≢false (sym (ap is_lt e)))
is_less Greater e = absurd (true≢false (sym (ap is_lt e)))

both_so : (a b : Bool) → T a → T b → T (a && b)
both_so true b p q = q
both_so false b p q = p

unequal : (o : Ordering) → o ≡ Less → is_eq (ordering_reverse o) ≡ false
unequal Less e = refl
unequal Equal e = absurd (true≢false (sym (ap is_lt e)))
unequal Greater e = refl

-- a name below another isn't that
pub apart : (a b : Text) → order a b ≡ Less → b ≢ a
apart a b less same = true≢false (sym (ap is_lt less) ∙ ap is_lt (ap (order a) same ∙ tied_itself nat_list_cmp_total a))

untied : (a b : Text) → order a b ≡ Less → eq_by_cmp order b a ≡ false
untied a b less = ap is_eq (nat_list_cmp_total.antisymm b a) ∙ unequal (order a b) less

module _ {A X : Type 0} (f : A → Text) (g : A → X) where
  abbrev pub entries_by : List A → List (Text × X)
  entries_by xs = list_map (λ x. (f x, g x)) xs

  below : (k : Text) (xs : List A) → AllByRecursion (λ j. order k j ≡ Less) (list_map f xs) → T (below_all order k (entries_by xs))
  below k [] all = tt
  below k (x ∷ xs) all = both_so (is_lt (order k (f x))) (below_all order k (entries_by xs)) (is_less (order k (f x)) all.0) (below k xs all.1)

  sorted_entries : (xs : List A) → IsStrictlySortedBy order (list_map f xs) → T (is_sorted order (entries_by xs))
  unfolding IsStrictlySortedBy
  sorted_entries [] sorted = tt
  sorted_entries (x ∷ xs) sorted = both_so (below_all order (f x) (entries_by xs)) (is_sorted order (entries_by xs)) (below (f x) xs sorted.0) (sorted_entries xs sorted.1)

  put_first : (e : Text × X) (es : List (Text × X)) → T (below_all order e.0 es) → put order e.0 e.1 es ≡ e ∷ es
  put_first e [] h = refl
  put_first e (y ∷ ys) h = go (order e.0 y.0) refl (first_of (is_lt (order e.0 y.0)) (below_all order e.0 ys) h)
    where
      go : (o : Ordering) → order e.0 y.0 ≡ o → T (is_lt o) → by_order o (e ∷ y ∷ ys) ((y.0, e.1) ∷ ys) (y ∷ put order e.0 e.1 ys) ≡ e ∷ y ∷ ys
      go Less is lt = refl
      go Equal is lt = absurd lt
      go Greater is lt = absurd lt

  -- the entries of their map are these
  pub entries_are : (xs : List A) → IsStrictlySortedBy order (list_map f xs) → map.entries (map.from_entries {R = order} (entries_by xs)) ≡ entries_by xs
  unfolding IsStrictlySortedBy
  entries_are [] sorted = go (map.entries (map.empty {X = X} {R = order})) (sym (map.len-entries (map.empty {X = X} {R = order})) ∙ map.len-empty order X)
    where
      go : (es : List (Text × X)) → length es ≡ 0 → es ≡ []
      go [] none = refl
      go (e ∷ es) none = absurd (omega (arith, none))
  entries_are (x ∷ xs) sorted =
      map.entries-insert nat_list_cmp_total (map.from_entries (entries_by xs)) (f x) (g x)
      ∙ ap (put order (f x) (g x)) (entries_are xs sorted.1)
      ∙ put_first (f x, g x) (entries_by xs) (below (f x) xs sorted.0)

  pub keys_are : (xs : List A) → IsStrictlySortedBy order (list_map f xs) → map.keys (map.from_entries {R = order} (entries_by xs)) ≡ list_map f xs
  keys_are xs sorted = ap (list_map (λ e. e.0)) (entries_are xs sorted) ∙ firsts xs
    where
      firsts : (ys : List A) → list_map (λ (e : Text × X). e.0) (entries_by ys) ≡ list_map f ys
      firsts [] = refl
      firsts (y ∷ ys) = ap (λ l. f y ∷ l) (firsts ys)

  all_names_at : (P : Text → Type 0) (xs : List A) (k : ℕ) (x : A) → AllByRecursion P (list_map f xs) → slice_get xs k ≡ Some x → P (f x)
  all_names_at P [] k x all at = absurd (let bad : None ≡ Some x = at in cc)
  all_names_at P (y ∷ ys) zero x all at = subst (λ z. P (f z)) (one_value (Some y) y x refl at) all.0
  all_names_at P (y ∷ ys) (suc k) x all at = all_names_at P ys k x all.1 at

  -- each is found at its name
  pub found_at : (xs : List A) (k : ℕ) (x : A) → IsStrictlySortedBy order (list_map f xs) → slice_get xs k ≡ Some x → find order (f x) (entries_by xs) ≡ Some (g x)
  unfolding IsStrictlySortedBy
  found_at [] k x sorted at = absurd (let bad : None ≡ Some x = at in cc)
  found_at (y ∷ ys) zero x sorted at =
      let same : y ≡ x = one_value (Some y) y x refl at in
      ap (λ b. cond b (Some (g y)) (find order (f x) (entries_by ys))) (ap (λ z. eq_by_cmp order (f x) (f z)) same ∙ ap is_eq (tied_itself nat_list_cmp_total (f x))) ∙ ap (λ z. Some (g z)) same
  found_at (y ∷ ys) (suc k) x sorted at =
      ap (λ b. cond b (Some (g y)) (find order (f x) (entries_by ys))) (untied (f y) (f x) (all_names_at (λ j. order (f y) j ≡ Less) ys k x sorted.0 at)) ∙ found_at ys k x sorted.1 at

  pub got_at : (xs : List A) (k : ℕ) (x : A) → IsStrictlySortedBy order (list_map f xs) → slice_get xs k ≡ Some x → map.get (map.from_entries {R = order} (entries_by xs)) (f x) ≡ Some (g x)
  got_at xs k x sorted at = map.get-from_entries nat_list_cmp_total (entries_by xs) (f x) ∙ found_at xs k x sorted at

  -- what is found is one of them
  pub found_one : (xs : List A) (q : Text) (v : X) → find order q (entries_by xs) ≡ Some v → (k : ℕ) × (x : A) × (slice_get xs k ≡ Some x) × (f x ≡ q) × (g x ≡ v)
  found_one [] q v is = absurd (let bad : None ≡ Some v = is in cc)
  found_one (y ∷ ys) q v is = by_key (bytes_eq q (f y)) refl (ap (λ b. cond b (Some (g y)) (find order q (entries_by ys))) (texts_ties q (f y)) ∙ is) (found_one ys q v)
    where
      by_key : (b : Bool) → bytes_eq q (f y) ≡ b → cond b (Some (g y)) (find order q (entries_by ys)) ≡ Some v → (find order q (entries_by ys) ≡ Some v → (k : ℕ) × (x : A) × (slice_get ys k ≡ Some x) × (f x ≡ q) × (g x ≡ v))
          → (k : ℕ) × (x : A) × (slice_get (y ∷ ys) k ≡ Some x) × (f x ≡ q) × (g x ≡ v)
      by_key true same here later = (0, y, refl, sym ((bytes_decides q (f y)).0 same), one_value (Some (g y)) (g y) v refl here)
      by_key false differs more later = let r = later more in (suc r.0, r.1, r.2, r.3, r.4)

  pub got_one : (xs : List A) (q : Text) (v : X) → map.get (map.from_entries {R = order} (entries_by xs)) q ≡ Some v → (k : ℕ) × (x : A) × (slice_get xs k ≡ Some x) × (f x ≡ q) × (g x ≡ v)
  got_one xs q v is = found_one xs q v (sym (map.get-from_entries nat_list_cmp_total (entries_by xs) q) ∙ is)

  -- whether one is there
  pub has_one : (xs : List A) (q : Text) → map.contains_key (map.from_entries {R = order} (entries_by xs)) q ≡ list_any (λ x. bytes_eq (f x) q) xs
  has_one xs q = ap is_some (map.get-from_entries nat_list_cmp_total (entries_by xs) q) ∙ go xs
    where
      turned : (a b : Text) → bytes_eq a b ≡ bytes_eq b a
      turned a b = by_bytes a b (λ same. ap (bytes_eq a) (sym same) ∙ ap (λ z. bytes_eq z a) same) (λ ne. other_bytes a b ne ∙ sym (other_bytes b a (λ e. ne (sym e))))

      either : (b : Bool) (v : X) (o : Option X) (r : Bool) → is_some o ≡ r → is_some (cond b (Some v) o) ≡ (b || r)
      either true v o r same = refl
      either false v o r same = same

      go : (ys : List A) → is_some (find order q (entries_by ys)) ≡ list_any (λ x. bytes_eq (f x) q) ys
      go [] = refl
      go (y ∷ ys) = either (eq_by_cmp order q (f y)) (g y) (find order q (entries_by ys)) (list_any (λ x. bytes_eq (f x) q) ys) (go ys) ∙ ap (λ b. b || list_any (λ x. bytes_eq (f x) q) ys) (sym (texts_ties q (f y)) ∙ turned q (f y))

-- ---- what is seen of methods

abbrev firsts : {X : Type 0} → List (Text × X) → List Text
firsts es = list_map (λ e. e.0) es

module _ {X : Type 0} where
  abbrev bare : List (Text × X) → List (Text × ℕ)
  bare es = list_map (λ e. (e.0, 0)) es

  bare_below : (k : Text) (es : List (Text × X)) → below_all order k (bare es) ≡ below_all order k es
  bare_below k [] = refl
  bare_below k (e ∷ es) = ap (λ b. is_lt (order k e.0) && b) (bare_below k es)

  bare_sorted : (es : List (Text × X)) → is_sorted order (bare es) ≡ is_sorted order es
  bare_sorted [] = refl
  bare_sorted (e ∷ es) = λ i. bare_below e.0 es i && bare_sorted es i

  bare_firsts : (es : List (Text × X)) → firsts (bare es) ≡ firsts es
  bare_firsts [] = refl
  bare_firsts (e ∷ es) = ap (λ l. e.0 ∷ l) (bare_firsts es)

  bare_find : (q : Text) (es : List (Text × X)) → find order q (bare es) ≡ option_map {U = ℕ} (λ v. 0) (find order q es)
  bare_find q [] = refl
  bare_find q (e ∷ es) = elim (eq_by_cmp order q e.0) as (λ b. cond b (Some 0) (find order q (bare es)) ≡ option_map {U = ℕ} (λ v. 0) (cond b (Some e.1) (find order q es))) [
    | true ↦ refl
    | false ↦ bare_find q es
  ]

  abbrev bare_map : Methods X → Methods ℕ
  bare_map m = map.from_sorted (bare (map.entries m))

  in_order : (m : Methods X) → T (is_sorted order (bare (map.entries m)))
  in_order m = subst T (sym (bare_sorted (map.entries m))) (map.entries_sorted m)

  bare_keys : (m : Methods X) → map.keys (bare_map m) ≡ map.keys m
  bare_keys m = ap firsts (map.entries-from_sorted order (bare (map.entries m)) (in_order m)) ∙ bare_firsts (map.entries m)

  bare_get : (m : Methods X) (q : Text) → map.get (bare_map m) q ≡ option_map {U = ℕ} (λ v. 0) (map.get m q)
  bare_get m q = map.get-from_sorted order (bare (map.entries m)) q (in_order m) ∙ bare_find q (map.entries m) ∙ ap (option_map {U = ℕ} (λ v. 0)) (sym (map.get-entries m q))

both_there : {X Y : Type 0} (a : Option X) (b : Option Y) → is_some a ≡ is_some b → option_map {U = ℕ} (λ v. 0) a ≡ option_map {U = ℕ} (λ v. 0) b
both_there None None same = refl
both_there None (Some y) same = absurd (cc)
both_there (Some x) None same = absurd (cc)
both_there (Some x) (Some y) same = refl

same_keys : {X Y : Type 0} (m : Methods X) (n : Methods Y) → ((q : Text) → map.contains_key m q ≡ map.contains_key n q) → map.keys m ≡ map.keys n
same_keys m n same =
    sym (bare_keys m)
    ∙ ap (λ (names : Methods ℕ). map.keys names)
    (map.same_map nat_list_cmp_total (map.slice_cmp-IsAntisymmetric map.nat_cmp-IsAntisymmetric) (bare_map m) (bare_map n) (λ q. bare_get m q ∙ both_there (map.get m q) (map.get n q) (same q) ∙ sym (bare_get n q)))
    ∙ bare_keys n

some_of : {X Y : Type 0} (f : X → Y) (o : Option X) → is_some (option_map f o) ≡ is_some o
some_of f None = refl
some_of f (Some x) = refl

-- it is enough that each method is seen so
pub seen : {X M : Type 0} (view : X → M) (m : Methods X) (n : Methods M) → ((selector : Text) → option_map view (map.get m selector) ≡ map.get n selector) → AreSeen view m n
seen view m n each = record { keys = same_keys m n (λ q. sym (some_of view (map.get m q)) ∙ ap is_some (each q)); each = each }
