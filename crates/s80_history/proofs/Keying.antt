-- Names in order: where one is put, and what is among them then.
use Rattle.std.proofs.Common.{◌≡◌, ◌∙◌, ap, sym, subst, refl, ℕ, zero, suc, ◌<◌, ◌≤◌, Bool, true, false, ◌||◌, List, [], ◌∷◌, ◌++◌, length, get_or, take, drop, slice_get, arith, true≢false}
use Rattle.std.specs.List.{AllByRecursion}
use Rattle.std.specs.List.Sorted.{IsPartitionPoint, IsPartitionedBy, IsStrictlySortedBy}
use Rattle.std.specs.Option.{option_map_or}
use Rattle.std.specs.declared.cmp.Ordering.{Ordering}
use Rattle.std.specs.declared.cmp.Ordering.TheVariants.{Less, Equal, Greater}
use Rattle.std.specs.Ordering.{is_eq, is_lt, nat_cmp, ordering_reverse, ordering_then}
use Rattle.std.specs.Cmp.{IsTotalOrder, nat_cmp_total, on_total, then_total, tied_itself}
use Rattle.std.specs.Cmp.Lexicographic.{nat_list_cmp_total, slice_cmp}
use Rattle.std.proofs.lemmas.Map.Text.{is_eq-slice_cmp}
use Rattle.s80_base.specs.declared.names.Side.{Side}
use Rattle.s80_base.specs.declared.names.Side.TheVariants.{Instance, Class}
use Rattle.s80_history.specs.declared.keys.MethodKey.{MethodKey}
use Rattle.s80_history.specs.Keys.{key_name, names_in, put_by, with_name}
use Rattle.s80_history.specs.Lists.{MethodName, is_same}
use Rattle.s80_history.specs.Order.{is_among, name_cmp, rank}
use Rattle.s80_history.proofs.Same.{name_same, same_name, text_same}

-- ---- the order

pub names_total : IsTotalOrder name_cmp
names_total =
    then_total (then_total (on_total (λ (n : MethodName). n.class_name) nat_list_cmp_total) (on_total (λ (n : MethodName). rank n.side) nat_cmp_total))
    (on_total (λ (n : MethodName). n.selector) nat_list_cmp_total)

pub is_less : (r : Ordering) → is_lt r ≡ true → r ≡ Less
is_less Less e = refl
is_less Equal e = absurd (true≢false (sym e))
is_less Greater e = absurd (true≢false (sym e))

below_trans : (a b c : MethodName) → name_cmp a b ≡ Less → is_lt (name_cmp b c) ≡ true → is_lt (name_cmp a c) ≡ true
below_trans a b c one other = ap is_lt (names_total.trans a b c one (is_less (name_cmp b c) other))

-- ---- the place of a name

all_at : (P : MethodName → Type 0) (xs : List MethodKey) (j : ℕ) (d : MethodKey) → AllByRecursion P (names_in xs) → j < length xs → P (key_name (get_or xs j d))
all_at P [] j d all h = let no : ⊥ = omega (arith, h) in absurd no
all_at P (x ∷ xs) zero d all h = all.0
all_at P (x ∷ xs) (suc j) d all h = all_at P xs j d all.1 (omega (arith, h))

pub parted : (xs : List MethodKey) (n : MethodName) → IsStrictlySortedBy name_cmp (names_in xs) → IsPartitionedBy (λ k. is_lt (name_cmp (key_name k) n)) xs
unfolding IsStrictlySortedBy
parted [] n sorted i j d le h found = let no : ⊥ = omega (arith, h) in absurd no
parted (x ∷ xs) n sorted zero zero d le h found = found
parted (x ∷ xs) n sorted zero (suc j) d le h found =
    below_trans (key_name x) (key_name (get_or xs j d)) n (all_at (λ m. name_cmp (key_name x) m ≡ Less) xs j d sorted.0 (omega (arith, h))) found
parted (x ∷ xs) n sorted (suc i) zero d le h found = let no : ⊥ = omega (arith, le) in absurd no
parted (x ∷ xs) n sorted (suc i) (suc j) d le h found = parted xs n sorted.1 i j d (omega (arith, le)) (omega (arith, h)) found

abbrev pub IsPoint : MethodName → List MethodKey → ℕ → Type 0
IsPoint n xs p = IsPartitionPoint (λ k. is_lt (name_cmp (key_name k) n) ≡ true) (λ k. is_lt (name_cmp (key_name k) n) ≡ false) xs p

abbrev pub is_there : MethodName → List MethodKey → ℕ → Bool
is_there n xs p = option_map_or (λ k. is_eq (name_cmp (key_name k) n)) (slice_get xs p) false

point_on : (n : MethodName) (x : MethodKey) (xs : List MethodKey) (p : ℕ) → IsPoint n (x ∷ xs) (suc p) → IsPoint n xs p
point_on n x xs p point = (λ k d ge lt. point.0 (suc k) d (omega arith) (omega (arith, lt)), λ k d ge lt. point.1 (suc k) d (omega (arith, ge)) (omega (arith, lt)))

pub put_anew : (key : MethodKey) (xs : List MethodKey) (p : ℕ) → p ≤ length xs → IsPoint (key_name key) xs p → false ≡ is_there (key_name key) xs p
    → names_in (take p xs ++ key ∷ drop p xs) ≡ with_name (key_name key) (names_in xs)
put_anew key [] zero le point none = refl
put_anew key [] (suc p) le point none = let no : ⊥ = omega (arith, le) in absurd no
put_anew key (x ∷ xs) zero le point none = go (name_cmp (key_name x) (key_name key)) refl
  where
    go : (r : Ordering) → name_cmp (key_name x) (key_name key) ≡ r
        → key_name key ∷ key_name x ∷ names_in xs ≡ put_by r (key_name key) (key_name x) (names_in xs) (with_name (key_name key) (names_in xs))
    go Less is = absurd (true≢false (sym (ap is_lt is) ∙ point.1 0 key (omega arith) (omega arith)))
    go Equal is = absurd (true≢false (sym (ap is_eq is) ∙ sym none))
    go Greater is = refl
put_anew key (x ∷ xs) (suc p) le point none =
    ap (λ names. key_name x ∷ names) (put_anew key xs p (omega (arith, le)) (point_on (key_name key) x xs p point) none)
    ∙ ap (λ r. put_by r (key_name key) (key_name x) (names_in xs) (with_name (key_name key) (names_in xs))) (sym (is_less (name_cmp (key_name x) (key_name key)) (point.0 0 key (omega arith) (omega arith))))

pub put_again : (key : MethodKey) (xs : List MethodKey) (p : ℕ) → IsPoint (key_name key) xs p → true ≡ is_there (key_name key) xs p → names_in xs ≡ with_name (key_name key) (names_in xs)
put_again key [] p point there = absurd (true≢false there)
put_again key (x ∷ xs) zero point there = go (name_cmp (key_name x) (key_name key)) refl
  where
    go : (r : Ordering) → name_cmp (key_name x) (key_name key) ≡ r
        → key_name x ∷ names_in xs ≡ put_by r (key_name key) (key_name x) (names_in xs) (with_name (key_name key) (names_in xs))
    go Less is = absurd (true≢false (there ∙ ap is_eq is))
    go Equal is = refl
    go Greater is = absurd (true≢false (there ∙ ap is_eq is))
put_again key (x ∷ xs) (suc p) point there =
    ap (λ names. key_name x ∷ names) (put_again key xs p (point_on (key_name key) x xs p point) there)
    ∙ ap (λ r. put_by r (key_name key) (key_name x) (names_in xs) (with_name (key_name key) (names_in xs))) (sym (is_less (name_cmp (key_name x) (key_name key)) (point.0 0 key (omega arith) (omega arith))))

-- ---- what is among them

equal_then : (a b : Ordering) → is_eq (ordering_then a b) ≡ true → (is_eq a ≡ true) × (is_eq b ≡ true)
equal_then Less b e = absurd (true≢false (sym e))
equal_then Equal b e = (refl, e)
equal_then Greater b e = absurd (true≢false (sym e))

sides_tied : (s t : Side) → is_eq (nat_cmp (rank s) (rank t)) ≡ true → s ≡ t
sides_tied Instance Instance e = refl
sides_tied Instance Class e = absurd (true≢false (sym e))
sides_tied Class Instance e = absurd (true≢false (sym e))
sides_tied Class Class e = refl

texts_tied : (a b : List ℕ) → is_eq (slice_cmp nat_cmp a b) ≡ true → a ≡ b
texts_tied a b e = text_same a b (sym (is_eq-slice_cmp a b) ∙ e)

pub names_tied : (m n : MethodName) → name_cmp m n ≡ Equal → m ≡ n
names_tied m n e =
    let parts = equal_then (ordering_then (slice_cmp nat_cmp m.class_name n.class_name) (nat_cmp (rank m.side) (rank n.side))) (slice_cmp nat_cmp m.selector n.selector) (ap is_eq e) in
    let two = equal_then (slice_cmp nat_cmp m.class_name n.class_name) (nat_cmp (rank m.side) (rank n.side)) parts.0 in
    let class = texts_tied m.class_name n.class_name two.0 in
    let side = sides_tied m.side n.side two.1 in
    let selector = texts_tied m.selector n.selector parts.1 in
    λ i. record { class_name = class i; side = side i; selector = selector i }

or_swapped : (a b c : Bool) → (a || (b || c)) ≡ (b || (a || c))
or_swapped true true c = refl
or_swapped true false c = refl
or_swapped false b c = refl

or_twice : (a c : Bool) → (a || c) ≡ (a || (a || c))
or_twice true c = refl
or_twice false c = refl

pub among_with : (name n : MethodName) (names : List MethodName) → is_among name (with_name n names) ≡ (is_same name n || is_among name names)
among_with name n [] = refl
among_with name n (k ∷ names) = go (name_cmp k n) refl (among_with name n names)
  where
    go : (r : Ordering) → name_cmp k n ≡ r → is_among name (with_name n names) ≡ (is_same name n || is_among name names)
        → is_among name (put_by r n k names (with_name n names)) ≡ (is_same name n || (is_same name k || is_among name names))
    go Less is rest = ap (λ b. is_same name k || b) rest ∙ or_swapped (is_same name k) (is_same name n) (is_among name names)
    go Equal is rest = or_twice (is_same name k) (is_among name names) ∙ ap (λ m. is_same name m || (is_same name k || is_among name names)) (names_tied k n is)
    go Greater is rest = refl

all_with : (P : MethodName → Type 0) (n : MethodName) (names : List MethodName) → P n → AllByRecursion P names → AllByRecursion P (with_name n names)
all_with P n [] own all = (own, all)
all_with P n (k ∷ names) own all = go (name_cmp k n) (all_with P n names own all.1)
  where
    go : (r : Ordering) → AllByRecursion P (with_name n names) → AllByRecursion P (put_by r n k names (with_name n names))
    go Less rest = (all.0, rest)
    go Equal rest = all
    go Greater rest = (own, all)

all_weaker : (P Q : MethodName → Type 0) (names : List MethodName) → ((m : MethodName) → P m → Q m) → AllByRecursion P names → AllByRecursion Q names
all_weaker P Q [] f all = all
all_weaker P Q (k ∷ names) f all = (f k all.0, all_weaker P Q names f all.1)

pub sorted_with : (n : MethodName) (names : List MethodName) → IsStrictlySortedBy name_cmp names → IsStrictlySortedBy name_cmp (with_name n names)
unfolding IsStrictlySortedBy
sorted_with n [] sorted = (tt, tt)
sorted_with n (k ∷ names) sorted = go (name_cmp k n) refl (sorted_with n names sorted.1)
  where
    go : (r : Ordering) → name_cmp k n ≡ r → IsStrictlySortedBy name_cmp (with_name n names) → IsStrictlySortedBy name_cmp (put_by r n k names (with_name n names))
    go Less is rest = (all_with (λ m. name_cmp k m ≡ Less) n names is sorted.0, rest)
    go Equal is rest = sorted
    go Greater is rest =
        let before : name_cmp n k ≡ Less = names_total.antisymm n k ∙ ap ordering_reverse is in
        ((before, all_weaker (λ m. name_cmp k m ≡ Less) (λ m. name_cmp n m ≡ Less) names (λ m above. names_total.trans n k m before above) sorted.0), sorted)

-- ---- one list alone is in order and has these names

same_isnt_less : (m n : MethodName) → name_cmp m n ≡ Less → is_same m n ≡ true → ⊥
same_isnt_less m n less same = true≢false (sym (ap is_eq (tied_itself names_total m)) ∙ ap (λ k. is_eq (name_cmp m k)) (name_same m n same) ∙ ap is_eq less)

not_among : (m : MethodName) (names : List MethodName) → AllByRecursion (λ n. name_cmp m n ≡ Less) names → is_among m names ≡ false
not_among m [] all = refl
not_among m (n ∷ names) all = go (is_same m n) refl (not_among m names all.1)
  where
    go : (b : Bool) → is_same m n ≡ b → is_among m names ≡ false → (b || is_among m names) ≡ false
    go true same rest = absurd (same_isnt_less m n all.0 same)
    go false apart rest = rest

among_first : (m : MethodName) (names : List MethodName) → is_among m (m ∷ names) ≡ true
among_first m names = ap (λ b. b || is_among m names) (same_name m)

tail_same : (x : MethodName) (xs ys : List MethodName) → AllByRecursion (λ n. name_cmp x n ≡ Less) xs → AllByRecursion (λ n. name_cmp x n ≡ Less) ys
    → ((m : MethodName) → is_among m (x ∷ xs) ≡ is_among m (x ∷ ys)) → (m : MethodName) → is_among m xs ≡ is_among m ys
tail_same x xs ys above other same m = go (is_same m x) refl (same m)
  where
    go : (b : Bool) → is_same m x ≡ b → (b || is_among m xs) ≡ (b || is_among m ys) → is_among m xs ≡ is_among m ys
    go true is rest =
        let own : m ≡ x = name_same m x is in
        ap (λ k. is_among k xs) own ∙ not_among x xs above ∙ sym (not_among x ys other) ∙ sym (ap (λ k. is_among k ys) own)
    go false is rest = rest

before_all : (x y : MethodName) (ys : List MethodName) → name_cmp x y ≡ Less → AllByRecursion (λ n. name_cmp y n ≡ Less) ys → AllByRecursion (λ n. name_cmp x n ≡ Less) (y ∷ ys)
before_all x y ys less above = (less, all_weaker (λ n. name_cmp y n ≡ Less) (λ n. name_cmp x n ≡ Less) ys (λ n h. names_total.trans x y n less h) above)

pub one_order : (xs ys : List MethodName) → IsStrictlySortedBy name_cmp xs → IsStrictlySortedBy name_cmp ys → ((m : MethodName) → is_among m xs ≡ is_among m ys) → xs ≡ ys
unfolding IsStrictlySortedBy
one_order [] [] one other same = refl
one_order [] (y ∷ ys) one other same = absurd (true≢false (sym (among_first y ys) ∙ sym (same y)))
one_order (x ∷ xs) [] one other same = absurd (true≢false (sym (among_first x xs) ∙ same x))
one_order (x ∷ xs) (y ∷ ys) one other same = go (name_cmp x y) refl (λ tails. one_order xs ys one.1 other.1 tails)
  where
    go : (r : Ordering) → name_cmp x y ≡ r → (((m : MethodName) → is_among m xs ≡ is_among m ys) → xs ≡ ys) → x ∷ xs ≡ y ∷ ys
    go Less is rest = absurd (true≢false (sym (among_first x xs) ∙ same x ∙ not_among x (y ∷ ys) (before_all x y ys is other.0)))
    go Equal is rest =
        let own = names_tied x y is in
        let tails = tail_same x xs ys one.0 (subst (λ k. AllByRecursion (λ n. name_cmp k n ≡ Less) ys) (sym own) other.0) (λ m. same m ∙ ap (λ k. is_among m (k ∷ ys)) (sym own)) in
        λ i. own i ∷ rest tails i
    go Greater is rest =
        let less : name_cmp y x ≡ Less = names_total.antisymm y x ∙ ap ordering_reverse is in
        absurd (true≢false (sym (among_first y ys) ∙ sym (same y) ∙ not_among y (x ∷ xs) (before_all y x xs less one.0)))
